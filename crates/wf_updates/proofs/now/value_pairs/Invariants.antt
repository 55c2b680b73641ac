use Rattle.std.proofs.Common.{◌≡◌, map, take}
use Rattle.wf_updates.proofs.now.value_pairs.Given as goal

abbrev pub invariant-loop-value : goal.invariant-loop-value
invariant-loop-value l = l.pairs.items ≡ map (λ o. (o.var.0, o.val)) (take l.value-index l.values)
