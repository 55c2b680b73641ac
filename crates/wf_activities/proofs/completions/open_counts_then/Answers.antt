use Rattle.std.proofs.Common.{◌≡◌, length, map, ◌∙◌, ap, arith, rules}
use Rattle.std.specs.List.{range_with_len}
use Rattle.wf_semantics.specs.Run.{open_now}
use Rattle.wf_activities.specs.Completed.{done_by}
use Rattle.wf_activities.specs.Stock.{items_in}
use Rattle.wf_activities.proofs.Rows.{row_len, row_more}
use Rattle.wf_activities.proofs.ChartTables.{few}
use Rattle.wf_activities.proofs.Admitting.{unit_known}
use Rattle.wf_activities.proofs.OpenCounts.{act_read, done_read, few_done, open_made}
use Rattle.wf_activities.proofs.completions.open_counts_then.Goals as goal

pub overflow_cast-a : goal.overflow_cast-a
overflow_cast-a c = omega (arith, (few c.args.chart.now c.requires.accepted).1, ap length c.as_slice-act-items.ensures)

pub index-requires : goal.index-requires
index-requires c =
    omega (arith, ap length c.as_slice-act-items.ensures, row_len (done_by c.args.chart.now c.args.entries.now) (length c.args.chart.now.acts) c.in_ok-done.done.items c.in_ok-done.ensures)

pub open_at-requires-clause-within : goal.open_at-requires-clause-within
open_at-requires-clause-within c =
    let there = act_read c.args.chart.now c.as_slice-act-items.result.now c.loop-a.a c.act-item.result c.as_slice-act-items.ensures (omega arith) (search rules) in
    omega (arith, unit_known c.args.chart.now c.requires.accepted c.loop-a.a c.act-item.result there, c.requires.units)

pub open_at-requires-clause-few : goal.open_at-requires-clause-few
open_at-requires-clause-few c =
    let there = act_read c.args.chart.now c.as_slice-act-items.result.now c.loop-a.a c.act-item.result c.as_slice-act-items.ensures (omega arith) (search rules) in
    few_done c.args.chart.now c.args.units.now c.args.entries.now c.requires.turn c.loop-a.a c.act-item.result there c.index.result.now
    (done_read c.args.chart.now c.args.entries.now c.in_ok-done.done.items c.in_ok-done.ensures c.loop-a.a c.act-item.result there c.index.result.now c.index.ensures)

pub loop-a-preserved : goal.loop-a-preserved
loop-a-preserved c =
    let there = act_read c.args.chart.now c.as_slice-act-items.result.now c.loop-a.a c.act-item.result c.as_slice-act-items.ensures (omega arith) (search rules) in
    c.in_ok-push.ensures.ok
    ∙ row_more (open_now c.args.chart.now (items_in c.args.units.now) c.args.entries.now) c.loop-a.a c.loop-a.counts c.open_at.result c.loop-a.invariant
    (open_made c.args.chart.now c.args.units.now c.args.entries.now c.requires.turn c.loop-a.a c.act-item.result there c.index.result.now
    (done_read c.args.chart.now c.args.entries.now c.in_ok-done.done.items c.in_ok-done.ensures c.loop-a.a c.act-item.result there c.index.result.now c.index.ensures) c.open_at.result c.open_at.ensures)

pub returns : goal.returns
returns c =
    let all : c.loop-a.a ≡ length c.as_slice-act-items.result.now = search rules in
    c.loop-a.invariant ∙ ap (λ n. map (open_now c.args.chart.now (items_in c.args.units.now) c.args.entries.now) (range_with_len 0 n)) (all ∙ ap length c.as_slice-act-items.ensures)
