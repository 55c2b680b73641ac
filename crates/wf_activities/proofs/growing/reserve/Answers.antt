use Rattle.std.proofs.Common.{◌≤◌, ◌+◌, ◌∙◌, ap, length, slice_index, arith}
use Rattle.std.proofs.Math.Seq.{map-set_same}
use Rattle.wf_activities.specs.UnitItems.{UnitItems}
use Rattle.wf_activities.specs.Stock.{items_in}
use Rattle.wf_activities.proofs.Closing.{items_read}
use Rattle.wf_activities.proofs.Adding.{reserved_more}
use Rattle.wf_activities.proofs.growing.reserve.Goals as goal

pub returns-in_err-reserve-clause-items : goal.returns-in_err-reserve-clause-items
returns-in_err-reserve-clause-items c =
    map-set_same (λ (i : UnitItems). i.items) c.loop-u.units c.loop-u.u c.reserve.new.self c.index-units-u-in-loop-u.result c.in_err-reserve.ensures.items ∙ c.loop-u.invariant.items

pub returns-in_err-reserve-clause-steps : goal.returns-in_err-reserve-clause-steps
returns-in_err-reserve-clause-steps c =
    map-set_same (λ (i : UnitItems). i.steps) c.loop-u.units c.loop-u.u c.reserve.new.self c.index-units-u-in-loop-u.result c.in_err-reserve.ensures.steps ∙ c.loop-u.invariant.steps

pub loop-u-preserved : goal.loop-u-preserved
loop-u-preserved c =
    let same = map-set_same (λ (i : UnitItems). i.items) c.loop-u.units c.loop-u.u c.reserve.new.self c.index-units-u-in-loop-u.result c.in_ok-reserve.ensures.items in
    let room : slice_index c.args.lengths.now c.loop-u.u ≤ length (items_in c.loop-u.units c.loop-u.u) + c.reserve.new.self.room =
    omega (arith, c.in_ok-reserve.ensures.ok, c.len.ensures, ap length (items_read c.loop-u.units c.loop-u.u c.index-units-u.result (omega arith))) in
    record {
      items = same ∙ c.loop-u.invariant.items;
      steps = map-set_same (λ (i : UnitItems). i.steps) c.loop-u.units c.loop-u.u c.reserve.new.self c.index-units-u-in-loop-u.result c.in_ok-reserve.ensures.steps ∙ c.loop-u.invariant.steps;
      room = reserved_more c.loop-u.units c.args.lengths.now c.loop-u.u c.reserve.new.self (omega arith) same room c.loop-u.invariant.room;
    }
