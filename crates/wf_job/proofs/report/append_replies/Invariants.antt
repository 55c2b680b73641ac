use Rattle.std.proofs.Common.{◌≡◌, ◌++◌, drop, flat_map}
use Rattle.wf_job.specs.Reports.{reply_line}
use Rattle.wf_job.proofs.report.append_replies.Given as goal

abbrev pub invariant-loop-client : goal.invariant-loop-client
invariant-loop-client l = l.text ++ flat_map reply_line (drop l.client-index l.replies) ≡ l.fn.text ++ flat_map reply_line l.replies
