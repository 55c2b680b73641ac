use Rattle.std.proofs.Common.{arith, ap, length}
use Rattle.std.proofs.lemmas.List.{length-map}
use Rattle.wf_steps.proofs.Made.{made_steps}
use Rattle.wf_steps.proofs.replica.Replica.taken.Goals as goal

pub overflow_cast-result : goal.overflow_cast-result
overflow_cast-result c = omega (arith, ap length c.turns.ensures, made_steps c.self.inside.part c.self.invariant.made, length-map c.self.inside.history.past.turns (λ turn. turn.sealed))

pub returns-clause-few : goal.returns-clause-few
returns-clause-few c = omega (arith, ap length c.turns.ensures, made_steps c.self.inside.part c.self.invariant.made, length-map c.self.inside.history.past.turns (λ turn. turn.sealed))
