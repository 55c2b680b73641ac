use Rattle.std.proofs.Common.{◌≡◌, map, take, nat_lt}
use Rattle.wf_activities.proofs.completions.done_bits.Given as goal

abbrev pub invariant-loop-count : goal.invariant-loop-count
invariant-loop-count l = l.bits ≡ map (λ n. nat_lt 0 n) (take l.count-index l.count-items)
