use Rattle.std.proofs.Common.{◌≡◌, Bool, map, take}
use Rattle.wf_parts.specs.declared.data.PartTransition.{PartTransition}
use Rattle.wf_flat.proofs.firing.pairs.Given as goal

abbrev pub invariant-loop-at : goal.invariant-loop-at
invariant-loop-at l = (test : PartTransition → Bool) → l.flags ≡ map test l.transitions → l.pairs.items ≡ map (λ trans. (trans.id.0, test trans)) (take l.at l.transitions)
