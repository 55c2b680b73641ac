use Rattle.std.proofs.Common.{◌≡◌}
use Rattle.wf_semantics.specs.Admission.{may_come}
use Rattle.wf_central.specs.Kept.{central_of}
use Rattle.wf_part_tests.proofs.Coming.{rest_may_come}
use Rattle.wf_part_tests.proofs.runs.may_come.Given as goal

abbrev pub invariant-loop-at : goal.invariant-loop-at
invariant-loop-at l =
    rest_may_come l.checked (central_of l.checked l.state).items l.entries l.at ≡ may_come l.checked (central_of l.checked l.state).items l.entries
