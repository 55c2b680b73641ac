use Rattle.std.proofs.Common.{◌≡◌, ◌++◌, drop, flat_map}
use Rattle.wf_ortho.specs.Lines.{component_line}
use Rattle.wf_partition.proofs.split.append_components.Given as goal

abbrev pub invariant-loop-component : goal.invariant-loop-component
invariant-loop-component l = l.text ++ flat_map (component_line l.chart) (drop l.component-index l.components) ≡ l.fn.text ++ flat_map (component_line l.chart) l.components
