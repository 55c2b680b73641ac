use Rattle.std.proofs.Common.{arith}
use Rattle.wf_steps.proofs.Short.{short_turn}
use Rattle.wf_steps.proofs.bodies.turn_is_short.Goals as goal

pub returns : goal.returns
returns c = short_turn c.args.step c.args.inputs.now c.args.sealed c.args.body.now (λ i. omega (arith, c.type_inv.body i)) c.requires
