use Rattle.std.proofs.Common.{◌∙◌, ◌++◌, List, sym, ap, append_assoc, append-nil}
use Rattle.wf_model.specs.declared.chart.State.{State}
use Rattle.wf_gen.specs.GenChart.{group, groups}
use Rattle.wf_gen.proofs.Lists.{groups-zero, groups-more}
use Rattle.wf_gen.proofs.states.append_groups.Goals as goal

pub loop-r-init : goal.loop-r-init
loop-r-init c = sym (ap (λ (l : List State). c.args.states.now ++ l) groups-zero ∙ append-nil c.args.states.now)

pub loop-r-preserved : goal.loop-r-preserved
loop-r-preserved c =
    c.in_ok-append_group.ensures ∙ ap (λ (l : List State). l ++ group c.loop-r.r) c.loop-r.invariant
    ∙ append_assoc c.args.states.now (groups c.loop-r.r) (group c.loop-r.r)
    ∙ ap (λ (l : List State). c.args.states.now ++ l) (sym (groups-more c.loop-r.r))
