use Rattle.std.proofs.Common.{length, filter, take, ap, arith, length-append, length-take}
use Rattle.std.proofs.lemmas.List.{length-map}
use Rattle.wf_model.specs.declared.update.StartAt.{StartAt}
use Rattle.wf_semantics.specs.Items.{Item, new_item}
use Rattle.wf_semantics.specs.Run.{is_at, new_items}
use Rattle.wf_activities.specs.Stock.{items_in}
use Rattle.wf_activities.proofs.Adding.{few_at}
use Rattle.wf_activities.proofs.growing.grow.Goals as goal

pub grow_one-requires-clause-few : goal.grow_one-requires-clause-few
grow_one-requires-clause-few c = λ u.
    omega (
      arith,
      ap length (c.loop-start.invariant.items u),
      length-append (items_in c.args.units.now u) (new_items c.args.chart.now u (take c.loop-start.start-index c.args.starts.now)),
      length-map {B = Item} (filter (is_at c.args.chart.now u) (take c.loop-start.start-index c.args.starts.now)) (λ (s : StartAt). new_item s.act),
      few_at (is_at c.args.chart.now u) (take c.loop-start.start-index c.args.starts.now),
      length-take c.loop-start.start-index c.args.starts.now,
      c.requires.few u,
    )
