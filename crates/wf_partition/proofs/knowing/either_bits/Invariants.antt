use Rattle.std.proofs.Common.{◌≡◌, ◌||◌, map, get_or, false}
use Rattle.std.specs.List.{range_with_len}
use Rattle.wf_partition.proofs.knowing.either_bits.Given as goal

abbrev pub invariant-loop-k : goal.invariant-loop-k
invariant-loop-k l = l.bits ≡ map (λ k. get_or l.one k false || get_or l.other k false) (range_with_len 0 l.k)
