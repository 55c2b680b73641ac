use Rattle.std.proofs.Common.{◌≡◌, map, filter, take}
use Rattle.wf_updates.proofs.first.first_states.Given as goal

abbrev pub invariant-loop-known : goal.invariant-loop-known
invariant-loop-known l = l.ids ≡ map (λ known. known.id) (filter (λ known. known.first) (take l.known-index l.states))
