use Rattle.std.proofs.Common.{◌≡◌, ◌++◌, drop}
use Rattle.wf_audit.specs.Replies.{vars_text}
use Rattle.wf_audit.proofs.reply.append_vars.Given as goal

abbrev pub invariant-loop-variable : goal.invariant-loop-variable
invariant-loop-variable l = l.text ++ vars_text l.chart (drop l.variable-index l.vars) ≡ l.fn.text ++ vars_text l.chart l.vars
