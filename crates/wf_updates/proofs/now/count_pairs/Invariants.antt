use Rattle.std.proofs.Common.{◌≡◌, ◌-◌, map, take, get_or}
use Rattle.wf_updates.proofs.now.count_pairs.Given as goal

abbrev pub invariant-loop-act : goal.invariant-loop-act
invariant-loop-act l = l.pairs.items ≡ map (λ a. (a.0.0, a.1 - get_or l.done a.0.0 0)) (take l.act-index l.unclosed)
