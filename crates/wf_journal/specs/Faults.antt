-- Of other calls. When a journal refuses.
use Rattle.std.specs.Prelude.{ℕ, ◌+◌, ◌==◌, ◌||◌, Bool, nat_lt, if◌then◌else◌, Option, Some, None}
use Rattle.wf_model.specs.Limits.{max_body, max_journal}
use Rattle.wf_disk.specs.declared.disk.WriteRefused.{WriteRefused}
use Rattle.wf_disk.specs.declared.disk.WriteRefused.TheVariants as write
use Rattle.wf_journal.specs.declared.fault.StartFault.{StartFault}
use Rattle.wf_journal.specs.declared.fault.StartFault.TheVariants as start
use Rattle.wf_journal.specs.declared.fault.AppendFault.{AppendFault}
use Rattle.wf_journal.specs.declared.fault.AppendFault.TheVariants.{Reopen, TooLong, Full}

-- a write's refusal, as a start tells it
abbrev pub start_fault : WriteRefused → StartFault
start_fault write.Failed = start.DiskFailed
start_fault write.NoMemory = start.NoMemory

-- why an append of this many bytes is refused before anything is done, in this order; in front of the body stand 5
-- bytes, and behind it a gate
unfoldable pub refusal_of : Bool → ℕ → ℕ → Option AppendFault
refusal_of failed place n =
    if failed then Some Reopen else if (n == 0) || nat_lt max_body n then Some TooLong else if nat_lt max_journal (place + n + 6) then Some Full else None
