use Rattle.std.proofs.Common.{◌≡◌, drop}
use Rattle.wf_model.specs.Accepted.{is_known_transition}
use Rattle.wf_check.specs.Firsts.{first_failing}
use Rattle.wf_check.proofs.Found.{failing_from}
use Rattle.wf_check.proofs.known.bad_transition.Given as goal

abbrev pub invariant-loop-t : goal.invariant-loop-t
invariant-loop-t l = first_failing (is_known_transition l.chart) l.transitions ≡ failing_from (is_known_transition l.chart) l.t (drop l.t l.transitions)
