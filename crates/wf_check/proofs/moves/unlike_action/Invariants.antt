use Rattle.std.proofs.Common.{◌≡◌, drop}
use Rattle.wf_model.specs.Accepted.{is_sorted_action}
use Rattle.wf_check.specs.Firsts.{first_failing}
use Rattle.wf_check.proofs.Found.{failing_from}
use Rattle.wf_check.proofs.moves.unlike_action.Given as goal

abbrev pub invariant-loop-n : goal.invariant-loop-n
invariant-loop-n l = first_failing (is_sorted_action l.chart) l.actions ≡ failing_from (is_sorted_action l.chart) l.n (drop l.n l.actions)
