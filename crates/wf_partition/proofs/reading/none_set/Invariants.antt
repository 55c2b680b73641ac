use Rattle.std.proofs.Common.{◌≡◌, map, false}
use Rattle.std.specs.List.{range_with_len}
use Rattle.wf_partition.proofs.reading.none_set.Given as goal

abbrev pub invariant-loop-k : goal.invariant-loop-k
invariant-loop-k l = l.bits ≡ map (λ k. false) (range_with_len 0 l._k)
