-- Inner. Why a record isn't taken.
use Rattle.wf_codec.specs.declared.fault.RecordFault.{RecordFault}
use Rattle.wf_codec.specs.declared.fault.RecordFault.TheVariants as records
use Rattle.wf_steps.specs.declared.following.Unfollowed.{Unfollowed}
use Rattle.wf_steps.specs.declared.following.Unfollowed.TheVariants.{Misfit, NoMemory}

-- what no record has doesn't follow
abbrev pub unfollowed : RecordFault → Unfollowed
unfollowed records.NotRecord = Misfit
unfollowed records.NoMemory = NoMemory
