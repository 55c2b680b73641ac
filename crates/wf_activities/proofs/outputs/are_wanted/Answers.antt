use Rattle.std.proofs.Common.{sym}
use Rattle.wf_activities.proofs.Wanted.{other_number}
use Rattle.wf_activities.proofs.outputs.are_wanted.Goals as goal

pub returns-then-wanted-outputs : goal.returns-then-wanted-outputs
returns-then-wanted-outputs c = sym (other_number c.args.wanted.now c.args.outputs.now c.if-wanted-outputs.true)
