use Rattle.std.proofs.Common.{arith, ap, length}
use Rattle.wf_steps.proofs.Kept.{items_below}
use Rattle.wf_steps.proofs.replica.Replica.items.Goals as goal

pub returns-clause-few : goal.returns-clause-few
returns-clause-few c = omega (arith, ap length c.self.invariant.items_are, items_below c.self.inside.part c.data-part.ensures.part c.self.invariant.made)
