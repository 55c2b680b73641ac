use Rattle.std.proofs.Common.{◌≡◌, ℕ, ◌+◌, ◌≤◌, ◌++◌, length, filter, take, drop, slice_index}
use Rattle.wf_semantics.specs.Run.{is_at, numbered}
use Rattle.wf_activities.proofs.numbers.item_numbers.Given as goal

abbrev pub invariant-loop-start : goal.invariant-loop-start
invariant-loop-start l = record {
  long : length l.counts.items ≡ length l.initial.counts.items;
  counted : (u : ℕ) → slice_index l.counts.items u ≡ slice_index l.initial.counts.items u + length (filter (is_at l.chart u) (take l.start-index l.starts));
  few : (u : ℕ) → slice_index l.counts.items u ≤ slice_index l.initial.counts.items u + l.start-index;
  rest : l.numbers ++ numbered l.chart (λ u. slice_index l.counts.items u) (drop l.start-index l.starts) ≡ numbered l.chart (λ u. slice_index l.initial.counts.items u) l.starts;
}
