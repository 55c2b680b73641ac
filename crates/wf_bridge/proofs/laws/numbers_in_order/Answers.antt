use Rattle.wf_bridge.proofs.Placing.{numbers_in_order}
use Rattle.wf_bridge.proofs.laws.numbers_in_order.Goals as goal

pub returns : goal.returns
returns c = numbers_in_order
