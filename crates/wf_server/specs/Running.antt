-- Of other calls. What a call that may add a record does to its disk.
use Rattle.std.specs.Prelude.{◌≡◌, ◌+◌, ◌≤◌, is_some}
use Rattle.wf_disk.specs.Disk.{Told, HasCause, IsSafeFor}
use Rattle.wf_journal.specs.Plan.{MeetsPlan}

-- It adds the record in four strokes. It fails at the first of them that the disk is to fail, and not over a disk that isn't to fail one;
-- with another answer none was to fail. The disk's count of faults rises exactly if it fails.
pub record RunsOn (old new : Told) (added no_memory failed : Type 0) : Type 0 where
  pub plan : MeetsPlan old new 4 failed
  pub safe : IsSafeFor old 4 → failed → ⊥
  pub cause : HasCause old new failed
  pub four : added → new.clock ≡ old.clock + 4
  pub two : no_memory → new.clock ≤ old.clock + 2
  pub tells : is_some new.image ≡ is_some old.image
