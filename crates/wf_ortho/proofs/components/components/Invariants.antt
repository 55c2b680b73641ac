use Rattle.std.proofs.Common.{◌≡◌, map}
use Rattle.std.specs.List.{range_with_len}
use Rattle.wf_parts.specs.Components.{component_of}
use Rattle.wf_ortho.proofs.components.components.Given as goal

abbrev pub invariant-loop-z : goal.invariant-loop-z
invariant-loop-z l = l.list ≡ map (component_of l.chart) (range_with_len 0 l.z)
