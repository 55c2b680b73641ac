-- Inner. How a unit is recovered.
use Rattle.std.specs.Prelude.{◌≡◌, ◌⊎◌, ℕ, ◌+◌, ◌<◌, ◌≤◌, true, false, List, Option, Some, None}
use Rattle.wf_disk.specs.Memory.{Held, told_of, image_of}
use Rattle.wf_machine.specs.Strokes.{Fuse, Done, SetOff, strokes}
use Rattle.wf_histories.specs.Histories.{History}
use Rattle.wf_worlds.specs.Worlds.{stood}
use Rattle.wf_server.specs.Servers.{Server, held}
use Rattle.wf_server.specs.Images.{Holds}
use Rattle.wf_slot.specs.declared.fuse.Fuse.{Fuse as Kept}
use Rattle.wf_slot.specs.declared.slot.Doubt.{Doubt}
use Rattle.wf_slot.specs.declared.slot.Remains.{Remains}
use Rattle.wf_slot.specs.declared.slot.recovery.Shut.{Shut}
use Rattle.wf_slot.specs.Fuses.{fuse_of, IsUnarmed, IsFused}
use Rattle.wf_slot.specs.Seats.{record_of, MayHold}

-- this history, or it with the record in doubt
abbrev pub IsPastOf : History → Option Doubt → History → Type 0
IsPastOf past None then = then ≡ past
IsPastOf past (Some d) then = (then ≡ past) ⊎ (then ≡ stood (record_of d) past)

-- the disk holds some history of the unit
abbrev pub HoldsSome : Remains → Type 0
HoldsSome remains = (past : History) × Holds remains.part past (image_of remains.disk)

-- a server that started again in one stroke, which was done
pub record Opens (remains : Remains) (fuse : Option Kept) (doubt : Option Doubt) (node : Server Held) : Type 0 where
  pub part : node.part ≡ remains.part
  pub past : IsPastOf remains.past.past doubt node.past
  pub healthy : node.journal.failed ≡ false
  pub empty : (v step : ℕ) → held node v step ≡ None
  pub clock : node.journal.disk.clock ≡ remains.disk.clock + 1
  pub longer : (f : Kept) → fuse ≡ Some f → 1 < f.left
  pub fused : (rest : Option Fuse) → strokes 1 (fuse_of fuse) ≡ Done rest → IsFused (told_of node.journal.disk) rest
  pub leaves : (file : List ℕ) → (told_of node.journal.disk).may_leave file → Holds node.part node.past file

-- one that didn't: its disk has no arm any more, which went off if the disk failed
pub record StaysDown (remains : Remains) (fuse : Option Kept) (doubt : Option Doubt) (shut : Shut) : Type 0 where
  pub part : shut.remains.part ≡ remains.part
  pub past : shut.remains.past ≡ remains.past
  pub clock : shut.remains.disk.clock ≤ remains.disk.clock + 1
  pub unarmed : IsUnarmed (told_of shut.remains.disk)
  pub leaves : (file : List ℕ) → (told_of shut.remains.disk).may_leave file → MayHold remains.part remains.past.past doubt file
  pub went_off : shut.failed ≡ true → (f : Kept) × (fuse ≡ Some f) × (strokes 1 (fuse_of fuse) ≡ SetOff f.left f.what)
