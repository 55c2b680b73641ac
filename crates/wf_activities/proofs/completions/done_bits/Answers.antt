use Rattle.std.proofs.Common.{ℕ, Bool, length, map, nat_lt, ◌∙◌, ap, arith}
use Rattle.std.specs.List.{range_with_len}
use Rattle.std.proofs.lemmas.List.{take_all}
use Rattle.std.proofs.lemmas.Simd.{map-map}
use Rattle.wf_activities.specs.Completed.{done_by}
use Rattle.wf_activities.proofs.Done.{done_told}
use Rattle.wf_activities.proofs.completions.done_bits.Goals as goal

pub returns : goal.returns
returns c =
    c.loop-count.invariant
    ∙ ap (map (λ n. nat_lt 0 n)) (take_all c.loop-count.count-index c.as_slice-count-items.result.now (omega arith) ∙ c.as_slice-count-items.ensures.value ∙ c.in_ok-counts.ensures)
    ∙ map-map (λ n. nat_lt 0 n) (done_by c.args.chart.now c.args.entries.now) (range_with_len 0 (length c.args.chart.now.acts))
    ∙ ap (λ (f : ℕ → Bool). map f (range_with_len 0 (length c.args.chart.now.acts))) (λ i a. done_told c.args.chart.now c.args.entries.now a i)
