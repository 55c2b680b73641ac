use Rattle.std.proofs.Common.{◌∙◌, ◌*◌, arith}
use Rattle.wf_flat.proofs.Masking.{flag_more}
use Rattle.wf_flat.proofs.Loops.{map_whole}
use Rattle.wf_flat.proofs.firing.flags.Goals as goal

pub overflow_cast-at : goal.overflow_cast-at
overflow_cast-at g c = omega (arith, c.loop-at-test.true, c.requires.long, c.requires.few)

pub loop-at-preserved : goal.loop-at-preserved
loop-at-preserved g c = λ test same.
    flag_more (64 * g.row.W) test c.args.transitions.now c.args.among.now c.loop-at.flags.items c.push.new.self.items c.loop-at.at c.has.result c.requires.long c.loop-at-test.true same c.has.ensures
    (c.loop-at.invariant test same) c.in_ok-push.ensures.items

pub returns : goal.returns
returns g c = λ test same. c.loop-at.invariant test same ∙ map_whole test c.args.transitions.now c.loop-at.at c.loop-at-test.false
