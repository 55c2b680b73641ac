use Rattle.std.proofs.Common.{◌≡◌, ◌∷◌, [], ◌++◌, List, length, sym, ap, ◌∙◌, subst, arith}
use Rattle.std.proofs.lemmas.List.{length-append}
use Rattle.wf_model.proofs.Few.{few_units}
use Rattle.wf_model.specs.declared.chart.Chart.{Chart}
use Rattle.wf_slot.specs.Slots.{SlotState}
use Rattle.wf_world.specs.Fleets.{IsNew, AreNew}
use Rattle.wf_world.proofs.Beginning.{new_is, new_push}
use Rattle.wf_world.proofs.fleet.starting.new_slots.Goals as goal

pub overflow_cast-unit : goal.overflow_cast-unit
overflow_cast-unit c =
    let few = few_units c.args.checked.now c.chart.ensures.accepted in
    let end = c.len-unit-end.ensures in
    let same : length c.chart.result.now.units ≡ length c.args.checked.now.units = ap (λ (chart : Chart). length chart.units) c.chart.ensures.same in
    let lt = c.loop-unit-test.true in
    omega (arith, few, end, same, lt)

pub loop-unit-preserved : goal.loop-unit-preserved
loop-unit-preserved c =
    let chart = c.args.checked.now in
    let slots = c.loop-unit.slots.items in
    let s = c.in_ok-start.field-0 in
    let count = c.loop-unit.invariant.count in
    let more = length-append slots (s ∷ []) in
    let it : IsNew chart c.loop-unit.unit s =
    new_is chart c.loop-unit.unit c.in_ok-part.part s c.in_ok-part.ensures c.in_ok-start.ensures.part c.in_ok-start.ensures.new c.in_ok-start.ensures.certain c.in_ok-start.ensures.clock in
    let pushed : c.push.new.self.items ≡ slots ++ s ∷ [] = c.in_ok-push.ensures.items in
    record {
      count = ap (λ (xs : List SlotState). length xs) pushed ∙ omega (arith, more, count);
      new = subst (AreNew chart) (sym pushed) (new_push chart slots s c.loop-unit.invariant.new (subst (λ u. IsNew chart u s) (sym count) it));
    }
