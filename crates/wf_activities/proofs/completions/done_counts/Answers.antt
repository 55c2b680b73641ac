use Rattle.std.proofs.Common.{◌≡◌, ◌<◌, length, map, take, get_or, ◌∙◌, ap, arith, rules}
use Rattle.std.specs.List.{range_with_len}
use Rattle.std.proofs.lemmas.List.{take_all}
use Rattle.std.proofs.lemmas.Grind.{get_or_default_zero}
use Rattle.wf_model.specs.declared.outer.Entry.{Entry}
use Rattle.wf_activities.specs.Completed.{done_by}
use Rattle.wf_activities.proofs.Rows.{row_at, row_len}
use Rattle.wf_activities.proofs.Done.{done_below, one_counted, none_counted}
use Rattle.wf_activities.proofs.completions.done_counts.Goals as goal
use Rattle.wf_activities.proofs.completions.done_counts.Goals.{in-Some, in_default}

pub index_mut-requires : goal.index_mut-requires
index_mut-requires c =
    omega (arith, c.in-Some.ensures.known, row_len (done_by c.args.chart.now (take c.loop-entry.entry-index c.args.entries.now)) (length c.args.chart.now.acts) c.loop-entry.counts.items c.loop-entry.invariant)

pub overflow_add-index_mut : goal.overflow_add-index_mut
overflow_add-index_mut c =
    let within : c.in-Some.act.0 < length c.loop-entry.counts.items =
    omega (arith, c.in-Some.ensures.known, row_len (done_by c.args.chart.now (take c.loop-entry.entry-index c.args.entries.now)) (length c.args.chart.now.acts) c.loop-entry.counts.items c.loop-entry.invariant) in
    let read : c.index_mut.result.now ≡ get_or c.loop-entry.counts.items c.in-Some.act.0 0 =
    c.index_mut.ensures.value ∙ get_or_default_zero c.loop-entry.counts.items c.in-Some.act.0 c.index_mut.result.now within in
    omega (
      arith,
      read,
      row_at (done_by c.args.chart.now (take c.loop-entry.entry-index c.args.entries.now)) (length c.args.chart.now.acts) c.in-Some.act.0 0 c.loop-entry.counts.items c.loop-entry.invariant c.in-Some.ensures.known,
      done_below c.args.chart.now c.args.entries.now c.loop-entry.entry-index c.in-Some.act.0 (omega arith),
    )

pub loop-entry-preserved : goal.loop-entry-preserved
loop-entry-preserved c = elim c.match-completion_of.branch [
  | in-Some w ↦
      let within : w.in-Some.act.0 < length c.loop-entry.counts.items =
      omega (arith, w.in-Some.ensures.known, row_len (done_by c.args.chart.now (take c.loop-entry.entry-index c.args.entries.now)) (length c.args.chart.now.acts) c.loop-entry.counts.items c.loop-entry.invariant) in
      ap (λ v. v.items) w.counts-is
      ∙ one_counted c.args.chart.now c.args.entries.now (length c.args.chart.now.acts) c.loop-entry.entry-index c.entry-item.result c.loop-entry.counts.items (omega arith) c.entry-item.is c.loop-entry.invariant
      w.in-Some.act w.index_mut.result.now w.in-Some.ensures.value w.in-Some.ensures.known
      (w.index_mut.ensures.value ∙ get_or_default_zero c.loop-entry.counts.items w.in-Some.act.0 w.index_mut.result.now within)
  | in_default w ↦
      ap (λ v. v.items) w.counts-is
      ∙ none_counted c.args.chart.now c.args.entries.now (length c.args.chart.now.acts) c.loop-entry.entry-index c.entry-item.result c.loop-entry.counts.items (omega arith) c.entry-item.is c.loop-entry.invariant w.in_default.ensures.value
]

pub returns : goal.returns
returns c =
    c.loop-entry.invariant
    ∙ ap (λ (l : Rattle.std.proofs.Common.List Entry). map (done_by c.args.chart.now l) (range_with_len 0 (length c.args.chart.now.acts))) (take_all c.loop-entry.entry-index c.args.entries.now (omega arith))
