use Rattle.std.proofs.Common.{◌+◌, ◌-◌, ◌∙◌, sym, arith}
use Rattle.wf_model.specs.Tree.{parent}
use Rattle.wf_check.proofs.Walks.{walk_found}
use Rattle.wf_check.proofs.tree.is_above.Goals as goal

pub returns-in-Some : goal.returns-in-Some
returns-in-Some c =
    sym (c.loop-step.invariant
    ∙ walk_found (parent c.args.chart.now) (c.args.s - c.loop-step._step) (c.args.s - (c.loop-step._step + 1)) c.loop-step.at c.in-Some.p c.args.a (omega arith) (sym c.in-Some.ensures) c.if-p-a.true)
