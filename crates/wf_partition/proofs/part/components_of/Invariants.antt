use Rattle.std.proofs.Common.{◌≡◌, map, filter}
use Rattle.std.specs.List.{range_with_len}
use Rattle.wf_parts.specs.Components.{component_of}
use Rattle.wf_parts.specs.Known.{is_state_of}
use Rattle.wf_partition.proofs.part.components_of.Given as goal

abbrev pub invariant-loop-component : goal.invariant-loop-component
invariant-loop-component l = l.components ≡ map (component_of l.chart) (filter (is_state_of l.chart l.unit.0) (range_with_len 0 l.component-index))
