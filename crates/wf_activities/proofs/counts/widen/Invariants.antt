use Rattle.std.proofs.Common.{◌≡◌, ℕ, ◌<◌, ◌≤◌, length, take, slice_index}
use Rattle.std.specs.List.{All}
use Rattle.wf_activities.specs.UnitItems.{listed}
use Rattle.wf_activities.proofs.counts.widen.Given as goal

abbrev pub invariant-loop-start : goal.invariant-loop-start
invariant-loop-start l = record {
  same : (a : ℕ) → slice_index l.counts.items a ≡ slice_index l.initial.counts.items a;
  longer : length l.initial.counts.items ≤ length l.counts.items;
  wide : All (λ s. s.act.0 < length l.counts.items) (listed l.acts (take l.start-index l.starts));
}
