use Rattle.std.proofs.Common.{◌≡◌, map}
use Rattle.std.specs.List.{range_with_len}
use Rattle.wf_parts.specs.Known.{is_state_of}
use Rattle.wf_partition.proofs.holding.states_at.Given as goal

abbrev pub invariant-loop-state : goal.invariant-loop-state
invariant-loop-state l = l.bits ≡ map (is_state_of l.chart l.unit.0) (range_with_len 0 l.state-index)
