-- Of other calls. What is known of a unit's history in a run, and what a crash leaves of it.
use Rattle.std.specs.Prelude.{◌≡◌, ◌≤◌, ℕ, Bool, false, List, Some, Ok}
use Rattle.wf_disk.specs.Disk.{Told}
use Rattle.wf_parts.specs.declared.data.PartData.{PartData}
use Rattle.wf_histories.specs.Histories.{History}
use Rattle.wf_server.specs.Heads.{IsStill}
use Rattle.wf_server.specs.Images.{Begins}
use Rattle.wf_server.specs.Servers.{Server, told_by}
use Rattle.wf_actors.specs.Opened.{opened}

-- From the moment at which the disk was taken, with this opening history. The second and third fact are about a disk of which a crash then
-- left what a read gave.
pub record IsKept (part : PartData) (taken now : Told) (opening past : History) (failed : Bool) : Type 0 where
  pub later : taken.moment ≤ now.moment
  -- the history begins with the opening one
  pub begins : Begins opening past
  -- so does each history that a crash since then may leave
  pub crashes : IsStill taken → (c : List ℕ) → now.left_since taken.moment c → (h : History) × (opened part c ≡ Ok h) × Begins opening h
  -- and the history begins with each of these, as long as no call of the disk failed
  pub covers : IsStill taken → failed ≡ false → (c : List ℕ) (h : History) → now.left_since taken.moment c → opened part c ≡ Ok h → Begins h past

-- as long as the disk tells its image
abbrev pub Keeps : {D : Type 0} → (D → Told) → D → History → Server D → Type 0
Keeps told taken opening server =
    (file : List ℕ) → (told_by told server).image ≡ Some file → IsKept server.part (told taken) (told_by told server) opening server.past server.journal.failed

-- WHAT WAS KEPT IS KEPT, whatever the disk was as it was taken, and whatever its history was then
pub record KeepsAll {D : Type 0} (told : D → Told) (old new : Server D) : Type 0 where
  pub each : (taken : D) (opening : History) → Keeps told taken opening old → Keeps told taken opening new
