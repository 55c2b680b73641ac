use Rattle.std.proofs.Common.{◌≡◌, ◌==◌, not, map, filter}
use Rattle.std.specs.List.{range_with_len}
use Rattle.wf_parts.specs.Peers.{known_of}
use Rattle.wf_partition.proofs.peers.peers_of.Given as goal

abbrev pub invariant-loop-v : goal.invariant-loop-v
invariant-loop-v l = l.peers ≡ map (known_of l.chart l.unit.0) (filter (λ v. not (v == l.unit.0)) (range_with_len 0 l.v))
