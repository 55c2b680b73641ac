use Rattle.std.proofs.Common.{◌≡◌}
use Rattle.wf_agreement.specs.Walks.{walk_at}
use Rattle.wf_agreement.proofs.walk.Walk.to_end.Given as goal

abbrev pub invariant-loop-at : goal.invariant-loop-at
invariant-loop-at l = l.walk ≡ walk_at l.part l.history.past l.at
