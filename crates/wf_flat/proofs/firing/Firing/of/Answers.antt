use Rattle.std.proofs.Common.{◌≡◌, ◌∙◌, Bool, List, All, map, ap, sym, subst}
use Rattle.wf_parts.specs.declared.data.PartTransition.{PartTransition}
use Rattle.wf_parts.specs.Rows.{AreRows}
use Rattle.wf_views.specs.OwnSteps.{is_ready_in, is_fired_in}
use Rattle.wf_flat.specs.Firing.{CanFire, says_of, is_unblocked}
use Rattle.wf_flat.specs.Sighted.{shown_by}
use Rattle.wf_flat.proofs.Masking.{unblocked_is_fired}
use Rattle.wf_flat.proofs.firing.Firing.of.Goals as goal

pub by_place-requires-clause-can : goal.by_place-requires-clause-can
by_place-requires-clause-can c = subst (All (CanFire (shown_by c.args.sight.now).seen)) (sym c.as_slice-transitions.ensures) c.requires.can

pub by_place-requires-clause-rows : goal.by_place-requires-clause-rows
by_place-requires-clause-rows c = subst (λ (l : List PartTransition). AreRows l c.args.rows.now) (sym c.as_slice-transitions.ensures) c.requires.rows

pub returns-clause-by_place : goal.returns-clause-by_place
returns-clause-by_place c =
    let part = c.args.part.now in
    let snap = shown_by c.args.sight.now in
    c.in_ok-by_place.ensures ∙ ap (λ (l : List PartTransition). map (is_unblocked l (is_ready_in snap)) l) c.as_slice-transitions.ensures
    ∙ ap (λ (test : PartTransition → Bool). map test part.transitions) (unblocked_is_fired part snap c.requires.part)

pub returns-clause-by_number : goal.returns-clause-by_number
returns-clause-by_number c =
    let part = c.args.part.now in
    let snap = shown_by c.args.sight.now in
    let lent = c.as_slice-transitions.result.now in
    let fired = is_fired_in part snap in
    let same = c.as_slice-transitions.ensures in
    let flags =
    c.as_slice.ensures.value ∙ c.in_ok-by_place.ensures ∙ ap (λ (l : List PartTransition). map (is_unblocked l (is_ready_in snap)) lent) same
    ∙ ap (λ (test : PartTransition → Bool). map test lent) (unblocked_is_fired part snap c.requires.part) in
    c.in_ok-by_number.ensures fired flags ∙ ap (says_of fired) same
