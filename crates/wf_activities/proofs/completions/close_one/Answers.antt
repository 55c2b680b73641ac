use Rattle.std.proofs.Common.{List, sym, ◌∙◌, ap}
use Rattle.wf_semantics.specs.Items.{Item, item_at}
use Rattle.std.proofs.Math.Seq.{map-set_same}
use Rattle.wf_activities.specs.UnitItems.{UnitItems, is_open}
use Rattle.wf_activities.specs.Stock.{items_in}
use Rattle.wf_activities.proofs.Closing.{head_open, unit_within, items_read, closed_one}
use Rattle.wf_activities.proofs.completions.close_one.Goals as goal

pub bounds-units-entry : goal.bounds-units-entry
bounds-units-entry c =
    unit_within c.args.units.now c.args.entry.now.unit.0 c.in-Complete.item
    (head_open c.args.entry.now c.in-Complete.item c.in-Complete.act c.in-Complete.outputs (items_in c.args.units.now c.args.entry.now.unit.0) c.in-Complete.is (c.requires c.args.entry.now.unit.0))

pub close-requires : goal.close-requires
close-requires c =
    let open_now = head_open c.args.entry.now c.in-Complete.item c.in-Complete.act c.in-Complete.outputs (items_in c.args.units.now c.args.entry.now.unit.0) c.in-Complete.is (c.requires c.args.entry.now.unit.0) in
    ap (λ (l : List Item). is_open (item_at l c.in-Complete.item))
    (sym (items_read c.args.units.now c.args.entry.now.unit.0 c.index-units-entry.result (unit_within c.args.units.now c.args.entry.now.unit.0 c.in-Complete.item open_now)))
    ∙ open_now

pub returns-in-Complete : goal.returns-in-Complete
returns-in-Complete c = record {
  items =
      let open_now = head_open c.args.entry.now c.in-Complete.item c.in-Complete.act c.in-Complete.outputs (items_in c.args.units.now c.args.entry.now.unit.0) c.in-Complete.is (c.requires c.args.entry.now.unit.0) in
      closed_one c.args.units.now c.args.entry.now c.in-Complete.item c.in-Complete.act c.in-Complete.outputs c.close.new.self c.index-units-entry.result c.in-Complete.is
      (unit_within c.args.units.now c.args.entry.now.unit.0 c.in-Complete.item open_now) c.close.ensures.items;
  steps = map-set_same (λ (i : UnitItems). i.steps) c.args.units.now c.args.entry.now.unit.0 c.close.new.self c.index-units-entry.result c.close.ensures.steps;
  rooms = map-set_same (λ (i : UnitItems). i.room) c.args.units.now c.args.entry.now.unit.0 c.close.new.self c.index-units-entry.result c.close.ensures.room;
}
