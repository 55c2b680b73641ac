use Rattle.std.proofs.Common.{◌≡◌, ◌++◌, ◌==◌, filter, take}
use Rattle.wf_steps.proofs.preparing.add_by.Given as goal

abbrev pub invariant-loop-start : goal.invariant-loop-start
invariant-loop-start l = l.ordered ≡ l.initial.ordered ++ filter (λ s. s.trans.0 == l.trans) (take l.start-index l.starts)
