use Rattle.std.proofs.Common.{◌≡◌, List, [], map, ap, refl, sym, subst, ◌∙◌}
use Rattle.wf_model.specs.declared.value.Val.{Val}
use Rattle.wf_model.specs.declared.ids.EventId.{EventId}
use Rattle.wf_semantics.specs.Effects.{after_entries}
use Rattle.wf_semantics.specs.Run.{open_now, is_there}
use Rattle.wf_semantics.specs.Shown.{HasSorts}
use Rattle.wf_activities.specs.Stock.{items_at}
use Rattle.wf_central.specs.Kept.{Kept, central_of}
use Rattle.wf_model.specs.Tree.{all_acts, all_events}
use Rattle.wf_central.specs.declared.snapshot.StepSnapshot.{StepSnapshot}
use Rattle.wf_central.proofs.Sorts.{sorted_after}
use Rattle.wf_central.proofs.Same.{comes, sees}
use Rattle.wf_central.proofs.state.CentralState.after_step.Goals as goal

pub open_counts_then-requires-clause-come : goal.open_counts_then-requires-clause-come
open_counts_then-requires-clause-come c =
    comes c.args.chart.now c.args.chart.now c.self.inside.items c.args.self.now c.args.outer.now refl (ap (λ (k : Kept). k.items) c.self.view_is) c.requires.come

pub pass_all-requires-clause-sorts : goal.pass_all-requires-clause-sorts
pass_all-requires-clause-sorts c =
    let chart = c.args.chart.now in
    let store : c.as_slice-4.result.now ≡ after_entries c.args.outer.now c.args.self.now.store =
    c.as_slice-4.ensures ∙ c.in_ok-store.ensures ∙ ap (after_entries c.args.outer.now) (c.as_slice-2.ensures ∙ ap (λ (k : Kept). k.store) c.self.view_is) in
    subst (λ (s : List Val). HasSorts chart s) (sym store)
    (sorted_after chart (central_of chart c.args.self.now) [] c.args.outer.now c.args.self.now.store c.requires.come c.requires.of.sorts)

pub returns-clause-step : goal.returns-clause-step
returns-clause-step c =
    let chart = c.args.chart.now in
    let kept = c.args.self.now in
    let snap : StepSnapshot = record { active = c.as_slice-3.result; store = c.as_slice-4.result; counts = c.as_slice-5.result; dones = c.as_slice-6.result } in
    c.pass_all.ensures.step (central_of chart kept) c.args.outer.now
    (sees chart c.requires.accepted kept c.args.outer.now snap c.in_ok-there.there c.requires.of
    (c.as_slice-3.ensures ∙ ap (λ (k : Kept). k.active) c.self.view_is)
    (c.as_slice-4.ensures ∙ c.in_ok-store.ensures ∙ ap (after_entries c.args.outer.now) (c.as_slice-2.ensures ∙ ap (λ (k : Kept). k.store) c.self.view_is))
    (c.as_slice-5.ensures ∙ c.in_ok-counts.ensures ∙ ap (λ (k : Kept). map (open_now chart (items_at k.items) c.args.outer.now) (all_acts chart)) c.self.view_is)
    (c.as_slice-6.ensures ∙ c.in_ok-dones.ensures)
    (c.in_ok-there.ensures
    ∙ ap (λ (l : List EventId). map (is_there l c.args.outer.now) (all_events chart)) (c.as_slice.ensures ∙ ap (λ (k : Kept). k.raised) c.self.view_is)))
