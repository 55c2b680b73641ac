use Rattle.std.proofs.Common.{arith}
use Rattle.wf_steps.proofs.Short.{short_outer}
use Rattle.wf_steps.proofs.bodies.outer_is_short.Goals as goal

pub returns : goal.returns
returns c = short_outer c.args.request c.args.outer.now c.args.body.now (λ i. omega (arith, c.type_inv.body i)) c.requires
