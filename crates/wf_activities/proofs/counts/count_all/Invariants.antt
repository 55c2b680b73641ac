use Rattle.std.proofs.Common.{◌≡◌, ℕ, ◌+◌, length, take, slice_index}
use Rattle.wf_activities.specs.UnitItems.{starts_count}
use Rattle.wf_activities.proofs.counts.count_all.Given as goal

abbrev pub invariant-loop-start : goal.invariant-loop-start
invariant-loop-start l = record {
  long : length l.counts.items ≡ length l.initial.counts.items;
  made : (a : ℕ) → slice_index l.counts.items a ≡ slice_index l.initial.counts.items a + starts_count a (take l.start-index l.fresh);
}
