use Rattle.std.proofs.Common.{◌≡◌, map, None}
use Rattle.std.specs.List.{range_with_len}
use Rattle.wf_central.proofs.passes.none_chosen.Given as goal

abbrev pub invariant-loop-state : goal.invariant-loop-state
invariant-loop-state l = l.table ≡ map (λ s. None) (range_with_len 0 l._state-index)
