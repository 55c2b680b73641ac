use Rattle.std.proofs.Common.{◌≡◌, ◌<◌, ℕ, List, [], ◌∷◌, ◌++◌, ◌∙◌, map, flat_map, length, get_or, ap, refl, arith}
use Rattle.std.specs.List.{range_with_len}
use Rattle.wf_model.proofs.Rows.{row_more}
use Rattle.wf_machine.specs.declared.admission.Place.{Place}
use Rattle.wf_histories.specs.Agreement.{least_taken}
use Rattle.wf_projection.proofs.Places.{step_of, step_is, list_is}
use Rattle.wf_projection.proofs.merging.places_in_order.Goals as goal

pub loop-at-preserved : goal.loop-at-preserved
loop-at-preserved c =
    λ h are.
    let n = length c.args.units.now in
    let at = c.loop-at.at in
    let item = c.in_ok-step_places.field-0 in
    let end = c.least_taken-at-end.ensures h are in
    let within : at < least_taken n h = omega (arith, end, c.loop-at-test.true) in
    let item_is : item ≡ step_of n h at =
    c.in_ok-step_places.ensures ∙ ap (flat_map (λ (turns : List (List Place)). get_or turns at [])) are ∙ step_is n h at within in
    c.in_ok-push-3.ensures.ok
    ∙ ap (λ (l : List (List Place)). l ++ item ∷ []) (c.loop-at.invariant h are)
    ∙ ap (λ (l : List (List Place)). [] ∷ [] ∷ l) (row_more (step_of n h) at (map (step_of n h) (range_with_len 0 at)) item refl item_is)

pub returns : goal.returns
returns c =
    λ h are.
    let n = length c.args.units.now in
    let end = c.least_taken-at-end.ensures h are in
    let done : c.loop-at.at ≡ least_taken n h = omega (arith, end, c.loop-at-test.false, c.loop-at.auto.at-end) in
    c.loop-at.invariant h are ∙ ap (λ (k : ℕ). [] ∷ [] ∷ map (step_of n h) (range_with_len 0 k)) done ∙ list_is n h
