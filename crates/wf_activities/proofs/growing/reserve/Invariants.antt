use Rattle.std.proofs.Common.{◌≡◌, ℕ, ◌+◌, ◌<◌, ◌≤◌, length, map, slice_index}
use Rattle.wf_activities.specs.Stock.{items_in, room_in}
use Rattle.wf_activities.proofs.growing.reserve.Given as goal

abbrev pub invariant-loop-u : goal.invariant-loop-u
invariant-loop-u l = record {
  items : map (λ i. i.items) l.units ≡ map (λ i. i.items) l.initial.units;
  steps : map (λ i. i.steps) l.units ≡ map (λ i. i.steps) l.initial.units;
  room : (k : ℕ) → k < l.u → slice_index l.lengths k ≤ length (items_in l.units k) + room_in l.units k;
}
