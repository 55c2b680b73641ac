use Rattle.std.proofs.Common.{◌≡◌, ◌<◌, ◌&&◌, length, rules, get_or, false, ◌∙◌, subst}
use Rattle.std.specs.List.{list_any, range_with_len}
use Rattle.wf_parts.specs.Known.{concerns}
use Rattle.wf_parts.specs.Reads.{guard_reads, values_read, action_reads}
use Rattle.wf_model.proofs.Rows.{row_at}
use Rattle.wf_partition.specs.Marked.{Adds, AreReads, reads_at}
use Rattle.wf_partition.proofs.Adding.{adds_both, adds_counted, adds_skipped, counted_at, counted_reads, reads_more}
use Rattle.wf_partition.proofs.reading.read_by.Goals as goal
use Rattle.wf_partition.proofs.reading.read_by.Goals.{then-is_set, else-is_set, then-is_state_of, else-is_state_of}

pub loop-t-preserved : goal.loop-t-preserved
loop-t-preserved c =
    let chart = c.args.chart.now in
    let u = c.args.unit.0 in
    let trans = c.transition-item.result in
    let within : c.loop-t.t < length c.args.chart.now.transitions = search rules in
    let item : c.transition-item.result ≡ get_or c.args.chart.now.transitions c.loop-t.t c.transition-item.result = search rules in
    let guard : Adds (λ r. c.is_set.result && guard_reads r trans) c.loop-t.reads c.if-is_set.reads = elim c.if-is_set.branch [
      | then-is_set w ↦ rw w.reads-is (adds_counted c.is_set.result (λ r. guard_reads r trans) c.loop-t.reads w.add_guard.new.reads w.if-is_set.true w.add_guard.ensures)
      | else-is_set w ↦ rw w.reads-is (adds_skipped c.is_set.result (λ r. guard_reads r trans) c.loop-t.reads w.if-is_set.false)
    ] in
    let values : Adds (λ r. c.is_state_of.result && values_read r trans) c.if-is_set.reads c.if-is_state_of.reads = elim c.if-is_state_of.branch [
      | then-is_state_of w ↦ rw w.reads-is (adds_counted c.is_state_of.result (λ r. values_read r trans) c.if-is_set.reads w.add_actions.new.reads w.if-is_state_of.true
          (subst (λ actions. Adds (λ r. list_any (action_reads r) actions) c.if-is_set.reads w.add_actions.new.reads) w.as_slice.ensures w.add_actions.ensures))
      | else-is_state_of w ↦ rw w.reads-is (adds_skipped c.is_state_of.result (λ r. values_read r trans) c.if-is_set.reads w.if-is_state_of.false)
    ] in
    reads_more chart (reads_at chart u) (counted_reads c.is_set.result c.is_state_of.result trans) c.loop-t.t c.loop-t.reads c.if-is_state_of.reads c.loop-t.invariant
    (adds_both (λ r. c.is_set.result && guard_reads r trans) (λ r. c.is_state_of.result && values_read r trans) c.loop-t.reads c.if-is_set.reads c.if-is_state_of.reads guard values)
    (counted_at chart u c.loop-t.t c.is_set.result c.is_state_of.result trans within item
    (c.is_set.ensures ∙ row_at (concerns chart u) (length chart.transitions) c.loop-t.t false c.args.concerned.now c.requires within) c.is_state_of.ensures)

pub returns : goal.returns
returns c =
    let all : c.loop-t.t ≡ length c.args.chart.now.transitions = search rules in
    subst (λ n. AreReads c.args.chart.now (λ r. list_any (reads_at c.args.chart.now c.args.unit.0 r) (range_with_len 0 n)) c.loop-t.reads) all c.loop-t.invariant
