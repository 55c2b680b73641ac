use Rattle.std.proofs.Common.{◌≡◌, map, take}
use Rattle.wf_updates.proofs.numbers.open_numbers.Given as goal

abbrev pub invariant-loop-act : goal.invariant-loop-act
invariant-loop-act l = l.numbers.items ≡ map (λ it. it.0.0) (take l.act-index l.unclosed)
