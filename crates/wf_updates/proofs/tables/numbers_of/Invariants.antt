use Rattle.std.proofs.Common.{◌≡◌, map, take}
use Rattle.wf_updates.proofs.tables.numbers_of.Given as goal

abbrev pub invariant-loop-pair : goal.invariant-loop-pair
invariant-loop-pair g l = l.numbers.items ≡ map (λ pair. pair.0) (take l.pair-index l.pairs)
