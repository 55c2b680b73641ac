use Rattle.std.proofs.Common.{◌≡◌, ◌*◌, ◌&&◌, nat_lt, map}
use Rattle.std.specs.List.{range_with_len}
use Rattle.wf_masks.specs.Masks.{fires_of}
use Rattle.wf_masks.proofs.firing.fires.Given as goal

abbrev pub invariant-loop-t : goal.invariant-loop-t
invariant-loop-t g l = l.firing ≡ map (λ u. nat_lt u l.t && fires_of l.enabled l.blockers u) (range_with_len 0 (64 * g.row.W))
