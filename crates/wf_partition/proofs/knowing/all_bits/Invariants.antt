use Rattle.std.proofs.Common.{◌≡◌, map}
use Rattle.std.specs.List.{range_with_len}
use Rattle.wf_partition.specs.Marked.{unit_bits}
use Rattle.wf_partition.proofs.knowing.all_bits.Given as goal

abbrev pub invariant-loop-unit : goal.invariant-loop-unit
invariant-loop-unit l = l.all ≡ map (unit_bits l.checked) (range_with_len 0 l.unit)
