use Rattle.std.proofs.Common.{◌≡◌, flat_map}
use Rattle.std.specs.List.{range_with_len}
use Rattle.wf_parts.specs.Parts.{part_of}
use Rattle.wf_partition.specs.SplitText.{part_text}
use Rattle.wf_partition.proofs.split.split_text.Given as goal

abbrev pub invariant-loop-unit : goal.invariant-loop-unit
invariant-loop-unit l = l.text ≡ flat_map (λ u. part_text l.checked (part_of l.checked u)) (range_with_len 0 l.unit)
