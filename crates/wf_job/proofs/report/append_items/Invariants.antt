use Rattle.std.proofs.Common.{◌≡◌, ◌++◌, drop}
use Rattle.wf_audit.specs.Replies.{starts_text}
use Rattle.wf_job.proofs.report.append_items.Given as goal

abbrev pub invariant-loop-act : goal.invariant-loop-act
invariant-loop-act l = l.text ++ starts_text l.chart (drop l.act-index l.items) ≡ l.fn.text ++ starts_text l.chart l.items
