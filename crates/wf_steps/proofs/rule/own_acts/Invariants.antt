use Rattle.std.proofs.Common.{◌≡◌, ◌==◌, map, filter, take}
use Rattle.wf_steps.proofs.rule.own_acts.Given as goal

abbrev pub invariant-loop-known : goal.invariant-loop-known
invariant-loop-known l = l.acts ≡ map (λ known. known.id) (filter (λ known. known.unit.0 == l.part.unit.0) (take l.known-index l.part.acts))
