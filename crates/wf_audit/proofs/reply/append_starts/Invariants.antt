use Rattle.std.proofs.Common.{◌≡◌, ◌++◌, drop}
use Rattle.wf_audit.specs.Replies.{starts_text}
use Rattle.wf_audit.proofs.reply.append_starts.Given as goal

abbrev pub invariant-loop-act : goal.invariant-loop-act
invariant-loop-act l = l.text ++ starts_text l.chart (drop l.act-index l.starts) ≡ l.fn.text ++ starts_text l.chart l.starts
