use Rattle.std.proofs.Common.{◌≡◌, ◌<◌, ℕ, List, map, length, get_or, sym, ap, ◌∙◌, subst, arith, rules}
use Rattle.std.specs.List.{range_with_len}
use Rattle.std.specs.Prelude.{IfOk}
use Rattle.wf_model.proofs.Few.{few_units}
use Rattle.wf_model.proofs.Rows.{row_more}
use Rattle.wf_machine.specs.declared.admission.Place.{Place}
use Rattle.wf_worlds.specs.Growing.{Fits}
use Rattle.wf_projection.specs.Merged.{unit_places}
use Rattle.wf_world.specs.Sounds.{hist_of}
use Rattle.wf_world.specs.Fleets.{FleetState, units_of}
use Rattle.wf_world.proofs.Results.{read_at}
use Rattle.wf_world.proofs.Fleets.{past_is}
use Rattle.wf_world.proofs.Merging.{fleet_turns, fleet_merged}
use Rattle.wf_world.proofs.fleet.Fleet.merged_list.Goals as goal

pub overflow_cast-unit : goal.overflow_cast-unit
overflow_cast-unit c =
    let few = few_units c.args.self.now.chart c.requires.fleet.accepted in
    let count = c.requires.fleet.count in
    let long : c.len-unit-end.result ≡ length c.args.self.now.slots = search (rules, c.len-unit-end.ensures, c.self.view_is) in
    let lt = c.loop-unit-test.true in
    omega (arith, few, count, long, lt)

-- the history of the unit
pub places_by_turn-requires : goal.places_by_turn-requires
places_by_turn-requires c =
    let f = c.args.self.now in
    let u = c.loop-unit.unit in
    let s = c.index.result.now in
    let long : c.len-unit-end.result ≡ length f.slots = search (rules, c.len-unit-end.ensures, c.self.view_is) in
    let count = c.requires.fleet.count in
    let lt = c.loop-unit-test.true in
    let within : u < length f.chart.units = omega (arith, long, count, lt) in
    let read : s ≡ get_or f.slots u s = subst (λ (y : FleetState). s ≡ get_or y.slots u s) c.self.view_is c.index.ensures in
    subst Fits (past_is f c.requires.fleet u s (read_at f c.requires.fleet u s within read) ∙ sym c.history-history.ensures) (c.requires.fleet.sound.fits u within)

pub loop-unit-preserved : goal.loop-unit-preserved
loop-unit-preserved c =
    let f = c.args.self.now in
    let u = c.loop-unit.unit in
    let s = c.index.result.now in
    let h = hist_of (units_of f.slots) in
    let long : c.len-unit-end.result ≡ length f.slots = search (rules, c.len-unit-end.ensures, c.self.view_is) in
    let count = c.requires.fleet.count in
    let lt = c.loop-unit-test.true in
    let within : u < length f.chart.units = omega (arith, long, count, lt) in
    let read : s ≡ get_or f.slots u s = subst (λ (y : FleetState). s ≡ get_or y.slots u s) c.self.view_is c.index.ensures in
    let past : c.history-history.result.now.past ≡ h u = c.history-history.ensures ∙ sym (past_is f c.requires.fleet u s (read_at f c.requires.fleet u s within read)) in
    c.in_ok-push.ensures.ok ∙ row_more (λ v. unit_places v (h v)) u c.loop-unit.units c.in_ok-places_by_turn.field-0 c.loop-unit.invariant (c.in_ok-places_by_turn.ensures ∙ ap (unit_places u) past)

pub returns : goal.returns
returns c =
    let f = c.args.self.now in
    let h = hist_of (units_of f.slots) in
    let end = c.len-unit-end.result in
    let long : end ≡ length f.slots = search (rules, c.len-unit-end.ensures, c.self.view_is) in
    let done : c.loop-unit.unit ≡ end = omega (arith, c.loop-unit-test.false, c.loop-unit.auto.unit-end) in
    let are : c.as_slice.result.now ≡ map (λ u. unit_places u (h u)) (range_with_len 0 end) = c.as_slice.ensures ∙ c.loop-unit.invariant ∙ ap (λ (k : ℕ). map (λ u. unit_places u (h u)) (range_with_len 0 k)) done in
    subst (λ (ms : List (List Place)). IfOk c.places_in_order.result (λ x. x ≡ ms)) (fleet_merged f c.requires.fleet c.as_slice.result.now end are long) (c.places_in_order.ensures h (fleet_turns f c.as_slice.result.now end are))
