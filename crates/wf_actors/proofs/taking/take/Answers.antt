use Rattle.std.proofs.Common.{rules}
use Rattle.wf_actors.proofs.Receiving.{takes_one}
use Rattle.wf_actors.proofs.taking.take.Goals as goal

pub returns : goal.returns
returns g c = takes_one _ _ _ _ _ c.receive.result (search rules) c.receive.ensures.answer c.receive.ensures.fresh c.receive.ensures.kept
