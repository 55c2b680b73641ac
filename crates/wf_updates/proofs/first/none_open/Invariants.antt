use Rattle.std.proofs.Common.{◌≡◌, map, take}
use Rattle.wf_updates.proofs.first.none_open.Given as goal

abbrev pub invariant-loop-known : goal.invariant-loop-known
invariant-loop-known l = l.counts ≡ map (λ known. (known.id, 0)) (take l.known-index l.acts)
