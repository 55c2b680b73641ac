use Rattle.std.proofs.Common.{rules}
use Rattle.wf_worlds.specs.Admitting.{may_admit}
use Rattle.wf_steps.proofs.replica.Replica.lets_in.Goals as goal

pub returns-in-Happen : goal.returns-in-Happen
unfolding may_admit
returns-in-Happen c = search rules
