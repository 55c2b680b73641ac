use Rattle.std.proofs.Common.{◌≡◌, List, length, OnOk, ap, sym, subst, ◌∙◌, arith}
use Rattle.wf_model.specs.declared.chart.Action.{Action}
use Rattle.wf_semantics.proofs.Facts.{chart_of}
use Rattle.wf_effects.specs.Performing.{performed_all}
use Rattle.wf_effects.proofs.Expressions.{actions_are}
use Rattle.wf_effects.proofs.Performed.{transition_at, actions_at, can_perform_all}
use Rattle.wf_effects.proofs.gathered.Gathered.fire.Goals as goal

pub perform_all-requires-clause-few : goal.perform_all-requires-clause-few
perform_all-requires-clause-few g c =
    let at = transition_at c.args.chart.now c.as_slice.result.now c.args.trans.0 c.index-as_slice-trans.result c.as_slice.ensures c.requires.in_range c.index-as_slice-trans.is in
    omega (arith, (actions_are c.args.chart.now c.args.trans.0 c.index-as_slice-trans.result c.requires.accepted at).few, ap length c.as_slice-2.ensures)

pub perform_all-requires-clause-can : goal.perform_all-requires-clause-can
perform_all-requires-clause-can g c =
    let at = transition_at c.args.chart.now c.as_slice.result.now c.args.trans.0 c.index-as_slice-trans.result c.as_slice.ensures c.requires.in_range c.index-as_slice-trans.is in
    can_perform_all c.args.chart.now (g.S.Snapshot.seen c.args.snap.now) c.index-as_slice-trans.result.actions c.as_slice-2.result.now (length c.args.self.now.store) (length c.args.self.now.raised)
    c.requires.shows (chart_of c.args.chart.now c.requires.accepted).some_event (actions_are c.args.chart.now c.args.trans.0 c.index-as_slice-trans.result c.requires.accepted at)
    c.as_slice-2.ensures c.requires.vars c.requires.events

pub returns : goal.returns
returns g c =
    let at = transition_at c.args.chart.now c.as_slice.result.now c.args.trans.0 c.index-as_slice-trans.result c.as_slice.ensures c.requires.in_range c.index-as_slice-trans.is in
    subst (λ (acts : List Action). OnOk c.perform_all.result (c.perform_all.new.self ≡ performed_all (g.S.Snapshot.seen c.args.snap.now) c.args.trans.0 0 acts c.args.self.now))
    (c.as_slice-2.ensures ∙ sym (actions_at c.args.chart.now c.args.trans.0 c.index-as_slice-trans.result at)) c.perform_all.ensures
