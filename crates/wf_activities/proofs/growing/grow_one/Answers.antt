use Rattle.std.proofs.Common.{◌<◌, length, sym, ap, arith}
use Rattle.std.proofs.lemmas.List.{get_or-map}
use Rattle.wf_model.specs.declared.update.StartAt.{StartAt}
use Rattle.wf_semantics.specs.Items.{new_item}
use Rattle.wf_activities.specs.UnitItems.{UnitItems}
use Rattle.wf_activities.proofs.Admitting.{unit_known, get_within}
use Rattle.wf_activities.proofs.ChartTables.{few}
use Rattle.wf_activities.proofs.Closing.{items_read}
use Rattle.wf_activities.proofs.Adding.{one_start, started_one, room_one}
use Rattle.wf_activities.proofs.growing.grow_one.Goals as goal

pub bounds-units-activity : goal.bounds-units-activity
bounds-units-activity c = omega (arith, unit_known c.args.chart.now c.requires.accepted c.args.start.now.act.0 c.in-Some.activity.now (sym c.in-Some.ensures.value), c.requires.units)

pub push-requires-clause-small : goal.push-requires-clause-small
push-requires-clause-small c = omega (arith, get_within c.args.chart.now.acts c.args.start.now.act.0 c.in-Some.activity.now (sym c.in-Some.ensures.value), (few c.args.chart.now c.requires.accepted).1)

pub push-requires-clause-room : goal.push-requires-clause-room
push-requires-clause-room c =
    let known = sym c.in-Some.ensures.value in
    let within : c.in-Some.activity.now.unit.0 < length c.args.units.now = omega (arith, unit_known c.args.chart.now c.requires.accepted c.args.start.now.act.0 c.in-Some.activity.now known, c.requires.units) in
    omega (
      arith,
      c.requires.room c.in-Some.activity.now.unit.0 within,
      one_start c.args.chart.now c.args.start.now c.in-Some.activity.now known,
      get_or-map (λ (i : UnitItems). i.room) c.args.units.now c.in-Some.activity.now.unit.0 c.index-units-activity.result 0 within,
    )

pub push-requires-clause-few : goal.push-requires-clause-few
push-requires-clause-few c =
    let known = sym c.in-Some.ensures.value in
    let within : c.in-Some.activity.now.unit.0 < length c.args.units.now = omega (arith, unit_known c.args.chart.now c.requires.accepted c.args.start.now.act.0 c.in-Some.activity.now known, c.requires.units) in
    omega (arith, c.requires.few c.in-Some.activity.now.unit.0, ap length (items_read c.args.units.now c.in-Some.activity.now.unit.0 c.index-units-activity.result within))

pub returns-in-Some-clause-items : goal.returns-in-Some-clause-items
returns-in-Some-clause-items c =
    let known = sym c.in-Some.ensures.value in
    let within : c.in-Some.activity.now.unit.0 < length c.args.units.now = omega (arith, unit_known c.args.chart.now c.requires.accepted c.args.start.now.act.0 c.in-Some.activity.now known, c.requires.units) in
    started_one c.args.chart.now c.args.start.now c.args.units.now c.in-Some.activity.now known within c.push.new.self c.index-units-activity.result (λ (i : UnitItems). i.items) (λ (s : StartAt). new_item s.act) c.push.ensures.items

pub returns-in-Some-clause-steps : goal.returns-in-Some-clause-steps
returns-in-Some-clause-steps c =
    let known = sym c.in-Some.ensures.value in
    let within : c.in-Some.activity.now.unit.0 < length c.args.units.now = omega (arith, unit_known c.args.chart.now c.requires.accepted c.args.start.now.act.0 c.in-Some.activity.now known, c.requires.units) in
    started_one c.args.chart.now c.args.start.now c.args.units.now c.in-Some.activity.now known within c.push.new.self c.index-units-activity.result (λ (i : UnitItems). i.steps) (λ (s : StartAt). c.args.step) c.push.ensures.steps

pub returns-in-Some-clause-room : goal.returns-in-Some-clause-room
returns-in-Some-clause-room c =
    let known = sym c.in-Some.ensures.value in
    let within : c.in-Some.activity.now.unit.0 < length c.args.units.now = omega (arith, unit_known c.args.chart.now c.requires.accepted c.args.start.now.act.0 c.in-Some.activity.now known, c.requires.units) in
    room_one c.args.chart.now c.args.start.now c.args.units.now c.in-Some.activity.now known within c.push.new.self c.index-units-activity.result c.push.ensures.room
