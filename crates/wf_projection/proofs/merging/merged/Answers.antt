use Rattle.std.proofs.Common.{◌≡◌, ◌<◌, ℕ, List, ◌∙◌, length, ap, sym, subst, arith}
use Rattle.std.specs.Prelude.{IfOk}
use Rattle.wf_machine.specs.declared.admission.Place.{Place}
use Rattle.wf_projection.specs.Merged.{AreTurns, merged_places, IsCentralAt}
use Rattle.wf_projection.proofs.Places.{all_fit, units_long, turns_here, if_ok}
use Rattle.wf_projection.proofs.Central.{central_at}
use Rattle.wf_projection.proofs.merging.merged.Goals as goal

pub returns-clause-list : goal.returns-clause-list
returns-clause-list c =
    λ h are.
    let n = length c.args.histories.now in
    let units = c.in_ok-units.units in
    let turns = c.in_ok-units.ensures h are in
    let here : AreTurns c.as_slice.result.now h = subst (λ (us : List (List (List Place))). AreTurns us h) (sym c.as_slice.ensures) (turns_here units h n turns) in
    let long : length c.as_slice.result.now ≡ n = ap (λ (us : List (List (List Place))). length us) c.as_slice.ensures ∙ units_long units h n turns in
    subst (λ (k : ℕ). IfOk c.places_in_order.result (λ steps. steps ≡ merged_places k h)) long (c.places_in_order.ensures h here)

pub returns-clause-central : goal.returns-clause-central
returns-clause-central c =
    λ chart h are same lean.
    if_ok c.places_in_order.result (λ steps. steps ≡ merged_places (length c.args.histories.now) h) (IsCentralAt chart h)
    (λ steps list. central_at chart h steps (λ u lt. all_fit c.args.histories.now h are c.requires.fits u (omega (arith, lt, same))) lean (list ∙ ap (λ (n : ℕ). merged_places n h) same))
    (returns-clause-list c h are)
