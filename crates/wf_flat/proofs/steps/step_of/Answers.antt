use Rattle.std.proofs.Common.{◌∙◌, ◌&&◌, List, map, filter, ap, sym}
use Rattle.wf_parts.specs.declared.data.Component.{Component}
use Rattle.wf_parts.specs.declared.data.PartTransition.{PartTransition}
use Rattle.wf_parts.specs.Components.{is_in_after}
use Rattle.wf_semantics.specs.Snapshot.{is_active}
use Rattle.wf_actions.specs.Writes.{merged}
use Rattle.wf_views.specs.OwnSteps.{differs, is_fired_in}
use Rattle.wf_flat.specs.Firing.{holds}
use Rattle.wf_flat.specs.Gathering.{ascending, gathered_of}
use Rattle.wf_flat.specs.Sighted.{shown_by}
use Rattle.wf_flat.proofs.Stepping.{update_made}
use Rattle.wf_flat.proofs.steps.step_of.Goals as goal

pub returns : goal.returns
returns c =
    let part = c.args.part.now in
    let snap = shown_by c.args.sight.now in
    let fires = holds c.in_ok-firing.firing.by_number in
    let g = c.in_ok-gathered.gathered in
    let by_place = c.as_slice-3.ensures.value ∙ c.in_ok-firing.ensures.by_place ∙ ap (map (is_fired_in part snap)) (sym c.as_slice-2.ensures) in
    update_made part snap c.args.step c.args.outers c.in_ok-flips.flips fires g c.in_ok-writes.writes c.in_ok-raised.raised
    c.in_ok-firing.ensures.by_number
    (c.in_ok-flips.ensures ∙ ap (λ (l : List Component). map (λ (d : Component). d.state) (filter (λ d. differs (is_active snap.seen d.state.0) (is_in_after fires d (is_active snap.seen d.state.0))) l)) c.as_slice.ensures)
    (c.in_ok-gathered.ensures (is_fired_in part snap) by_place ∙ ap (λ (l : List PartTransition). gathered_of snap.seen (filter (λ trans. trans.own && is_fired_in part snap trans) l)) c.as_slice-2.ensures)
    (c.in_ok-writes.ensures ∙ ap merged c.as_slice-4.ensures)
    (c.in_ok-raised.ensures ∙ ap ascending c.as_slice-5.ensures)
