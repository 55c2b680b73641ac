use Rattle.std.proofs.Common.{◌≡◌, ◌<◌, ◌++◌, ℕ, List, length, sym, ap, ◌∙◌, subst, arith, rules}
use Rattle.wf_model.proofs.Few.{few_units}
use Rattle.wf_model.specs.declared.ids.UnitId.{UnitId}
use Rattle.wf_model.specs.declared.chart.Chart.{Chart}
use Rattle.wf_machine.specs.Runs.{is_lost, recovery_of}
use Rattle.wf_slot.specs.Slots.{SlotState, server}
use Rattle.wf_world.specs.Fleets.{FleetState, slot_at, EndsOne, IsEnding}
use Rattle.wf_world.proofs.Closing.{none_ended, one_ended, ended_slot, early_at}
use Rattle.wf_world.proofs.fleet.Fleet.finish_all.Goals as goal

pub loop-unit-init : goal.loop-unit-init
loop-unit-init c =
    let f = c.args.self.now in
    let long : c.len-unit-end.result ≡ length f.slots = search (rules, c.len-unit-end.ensures, c.self.view_is) in
    record { so_far = subst (λ (rs : List (UnitId × ℕ × ℕ)). IsEnding f f 0 rs) (sym c.new-recovered.ensures) (none_ended f c.requires.fleet); long = long }

pub overflow_cast-unit : goal.overflow_cast-unit
overflow_cast-unit c =
    let few = few_units c.args.self.now.chart c.requires.fleet.accepted in
    let count = c.requires.fleet.count in
    let long = c.loop-unit.invariant.long in
    let lt = c.loop-unit-test.true in
    omega (arith, few, count, long, lt)

-- there is such a unit
there_is : (f g : FleetState) (u n : ℕ) (rs : List (UnitId × ℕ × ℕ)) → IsEnding f g u rs → length f.slots ≡ length f.chart.units → n ≡ length f.slots → u < n → u < length g.slots
there_is f g u n rs so_far count long lt =
    let a = so_far.fleet.count in
    let b : length g.chart.units ≡ length f.chart.units = ap (λ (chart : Chart). length chart.units) so_far.chart in
    omega (arith, a, b, count, long, lt)

pub finish_unit-requires-clause-early : goal.finish_unit-requires-clause-early
finish_unit-requires-clause-early c =
    let f = c.args.self.now in
    let g = c.loop-unit.self in
    let u = c.loop-unit.unit in
    let so_far = c.loop-unit.invariant.so_far in
    let worn = c.requires.worn in
    early_at g worn.0 u worn.1 (so_far.worn (λ v. worn.0) worn.2) (there_is f g u c.len-unit-end.result c.loop-unit.recovered so_far c.requires.fleet.count c.loop-unit.invariant.long c.loop-unit-test.true)

pub loop-unit-preserved : goal.loop-unit-preserved
loop-unit-preserved c =
    let f = c.args.self.now in
    let g = c.loop-unit.self in
    let k = c.finish_unit.new.self in
    let u = c.loop-unit.unit in
    let so_far = c.loop-unit.invariant.so_far in
    let one : EndsOne g u k = c.in_ok-finish_unit.ensures.ended in
    let lt = there_is f g u c.len-unit-end.result c.loop-unit.recovered so_far c.requires.fleet.count c.loop-unit.invariant.long c.loop-unit-test.true in
    record {
      so_far = one_ended f g (record { 0 = u }) c.loop-unit.recovered so_far k one c.finish_unit.new.recovered lt
          (c.in_ok-finish_unit.ensures.counts ∙ ap (λ (x : SlotState). c.loop-unit.recovered ++ recovery_of (is_lost (slot_at g u).health) u (server x)) (ended_slot g k u one lt));
      long = c.loop-unit.invariant.long;
    }
