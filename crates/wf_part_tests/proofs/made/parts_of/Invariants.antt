use Rattle.std.proofs.Common.{◌≡◌, map}
use Rattle.std.specs.List.{range_with_len}
use Rattle.wf_parts.specs.Parts.{part_of}
use Rattle.wf_part_tests.proofs.made.parts_of.Given as goal

abbrev pub invariant-loop-unit : goal.invariant-loop-unit
invariant-loop-unit l = l.parts.items ≡ map (part_of l.checked) (range_with_len 0 l.unit)
