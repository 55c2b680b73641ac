use Rattle.std.proofs.Common.{◌≡◌, map}
use Rattle.wf_model.specs.Tree.{all_transitions}
use Rattle.wf_partition.proofs.Concerned.{moved_before}
use Rattle.wf_partition.proofs.marks.concerned_bits.Given as goal

abbrev pub invariant-loop-component : goal.invariant-loop-component
invariant-loop-component l = l.bits ≡ map (moved_before l.checked l.unit.0 l.component-index) (all_transitions l.checked)
