use Rattle.std.proofs.Common.{◌≡◌, drop}
use Rattle.std.specs.List.{list_all}
use Rattle.wf_model.specs.Accepted.{is_known_action}
use Rattle.wf_check.proofs.known.are_known_actions.Given as goal

abbrev pub invariant-loop-action : goal.invariant-loop-action
invariant-loop-action l = list_all (is_known_action l.chart) l.actions ≡ list_all (is_known_action l.chart) (drop l.action-index l.actions)
