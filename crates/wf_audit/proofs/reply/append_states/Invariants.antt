use Rattle.std.proofs.Common.{◌≡◌, ◌++◌, drop}
use Rattle.wf_audit.specs.Replies.{states_text}
use Rattle.wf_audit.proofs.reply.append_states.Given as goal

abbrev pub invariant-loop-state : goal.invariant-loop-state
invariant-loop-state l = l.text ++ states_text l.chart (drop l.state-index l.states) ≡ l.fn.text ++ states_text l.chart l.states
