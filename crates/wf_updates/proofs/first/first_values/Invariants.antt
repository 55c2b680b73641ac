use Rattle.std.proofs.Common.{◌≡◌, map, take}
use Rattle.wf_updates.proofs.first.first_values.Given as goal

abbrev pub invariant-loop-known : goal.invariant-loop-known
invariant-loop-known l = l.values ≡ map (λ known. record { var = known.id; val = known.first }) (take l.known-index l.vars)
