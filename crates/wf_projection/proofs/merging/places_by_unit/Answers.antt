use Rattle.std.proofs.Common.{◌∙◌, ap}
use Rattle.wf_model.proofs.Rows.{row_more}
use Rattle.wf_projection.specs.Merged.{unit_places}
use Rattle.wf_projection.proofs.Places.{history_at}
use Rattle.wf_projection.proofs.merging.places_by_unit.Goals as goal

pub loop-unit-preserved : goal.loop-unit-preserved
loop-unit-preserved c =
    λ h are.
    let u = c.loop-unit.unit in
    c.in_ok-push.ensures.ok
    ∙ row_more (λ v. unit_places v (h v)) u c.loop-unit.units c.in_ok-places_by_turn.field-0 (c.loop-unit.invariant h are)
    (c.in_ok-places_by_turn.ensures ∙ ap (unit_places u) (history_at c.args.histories.now h u c.index-histories-unit.result are c.loop-unit-test.true c.index-histories-unit.is))
