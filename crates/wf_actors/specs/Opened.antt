-- Of other calls. What a unit's image is opened to.
use Rattle.std.specs.Prelude.{List, ℕ, Result, Ok, Err, if◌then◌else◌}
use Rattle.wf_journal.specs.Frames.{can_start, end_of}
use Rattle.wf_parts.specs.declared.data.PartData.{PartData}
use Rattle.wf_histories.specs.Histories.{History}
use Rattle.wf_steps.specs.declared.fault.RecoverFault.{RecoverFault}
use Rattle.wf_steps.specs.Records.{history_of}
use Rattle.wf_server.specs.declared.fault.NodeFault.{NodeFault}
use Rattle.wf_server.specs.declared.fault.NodeFault.TheVariants as faults
use Rattle.wf_server.specs.Starting.{unrecovered_by}

abbrev pub read_as : Result History RecoverFault → Result History NodeFault
read_as (Ok past) = Ok past
read_as (Err why) = Err (unrecovered_by why)

-- the history that the image holds, be it without a record; or why no server is started on it
unfoldable pub opened : PartData → List ℕ → Result History NodeFault
opened part file = if can_start file then read_as (history_of part file) else Err (faults.BadFrame (end_of file))
