use Rattle.std.proofs.Common.{ap, ◌∙◌}
use Rattle.wf_central.specs.Kept.{Kept}
use Rattle.wf_central.proofs.Same.{admits}
use Rattle.wf_central.proofs.state.CentralState.may_admit_if.Goals as goal

pub returns : goal.returns
returns c = λ entries same.
    c.may_admit.ensures entries same
    ∙ admits c.args.checked.now c.chart.result.now c.self.inside.items c.args.self.now entries c.args.unit.0 c.args.outer.now c.chart.ensures.same (ap (λ (k : Kept). k.items) c.self.view_is)
