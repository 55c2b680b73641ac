use Rattle.std.proofs.Common.{◌≡◌, ◌<◌, ◌&&◌, ◌==◌, Bool, ℕ, List, get_or, length, rules, false, refl, ap₂, sym, ◌∙◌}
use Rattle.wf_scopes.proofs.Lines.{source_read}
use Rattle.wf_partition.specs.Marked.{marked, leads_from}
use Rattle.wf_partition.proofs.Bits.{marked_none, numbers_more, marked_counted, marked_skipped}
use Rattle.wf_partition.proofs.marks.mark_sources.Goals as goal
use Rattle.wf_partition.proofs.marks.mark_sources.Goals.{then-is_set, else-is_set}

pub loop-t-init : goal.loop-t-init
loop-t-init c = marked_none (λ s. false) c.args.bits.now (λ s. refl)

pub loop-t-preserved : goal.loop-t-preserved
loop-t-preserved c =
    let chart = c.args.chart.now in
    let within : c.loop-t.t < length c.args.chart.now.transitions = search rules in
    let item : c.transition-item.result ≡ get_or c.args.chart.now.transitions c.loop-t.t c.transition-item.result = search rules in
    let source = c.transition-item.result.source.0 in
    let same = λ (s : ℕ). ap₂ (λ (b : Bool) (x : ℕ). b && (x == s)) c.is_set.ensures (sym (source_read chart c.loop-t.t c.transition-item.result within item)) in
    let more = λ (new : List Bool) (made : new ≡ marked (λ s. c.is_set.result && (source == s)) c.loop-t.bits).
    numbers_more (λ t s. leads_from chart c.args.concerned.now s t) (λ s. c.is_set.result && (source == s)) c.loop-t.t c.args.bits.now c.loop-t.bits new c.loop-t.invariant made same in
    elim c.if-is_set.branch [
      | then-is_set w ↦ more _ (w.bits-is ∙ marked_counted c.is_set.result (λ s. source == s) c.loop-t.bits w.mark.new.bits w.if-is_set.true w.mark.ensures)
      | else-is_set w ↦ more _ (w.bits-is ∙ marked_skipped c.is_set.result (λ s. source == s) c.loop-t.bits w.if-is_set.false)
    ]
