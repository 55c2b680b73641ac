use Rattle.std.proofs.Common.{◌≡◌, ◌++◌, ◌==◌, drop, filter}
use Rattle.wf_central.proofs.run.append_of.Given as goal

abbrev pub invariant-loop-entry : goal.invariant-loop-entry
invariant-loop-entry l =
    l.ordered ++ filter (λ x. x.unit.0 == l.unit.0) (drop l.entry-index l.entries) ≡ l.fn.ordered ++ filter (λ x. x.unit.0 == l.unit.0) l.entries
