use Rattle.std.proofs.Common.{◌≡◌, ℕ, ◌<◌, ◌≤◌, ◌++◌, length, map, filter, take, drop}
use Rattle.wf_semantics.specs.Run.{is_at, new_items}
use Rattle.wf_activities.specs.Stock.{items_in, steps_in, room_in}
use Rattle.wf_activities.proofs.growing.grow.Given as goal

abbrev pub invariant-loop-start : goal.invariant-loop-start
invariant-loop-start l = record {
  items : (u : ℕ) → items_in l.units u ≡ items_in l.initial.units u ++ new_items l.chart u (take l.start-index l.starts);
  steps : (u : ℕ) → steps_in l.units u ≡ steps_in l.initial.units u ++ map (λ s. l.step) (filter (is_at l.chart u) (take l.start-index l.starts));
  room : (u : ℕ) → u < length l.units → length (filter (is_at l.chart u) (drop l.start-index l.starts)) ≤ room_in l.units u;
}
