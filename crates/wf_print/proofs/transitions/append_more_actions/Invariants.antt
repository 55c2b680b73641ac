use Rattle.std.proofs.Common.{◌≡◌, ◌++◌, drop}
use Rattle.wf_print.specs.Words.{behind_commas}
use Rattle.wf_print.specs.Transitions.{action_text}
use Rattle.wf_print.proofs.transitions.append_more_actions.Given as goal

abbrev pub invariant-loop-action : goal.invariant-loop-action
invariant-loop-action l = l.text ++ behind_commas (action_text l.chart) (drop l.action-index l.actions) ≡ l.fn.text ++ behind_commas (action_text l.chart) l.actions
