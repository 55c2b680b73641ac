use Rattle.std.proofs.Common.{◌≡◌, ◌++◌, drop}
use Rattle.wf_audit.specs.Replies.{raised_text}
use Rattle.wf_audit.proofs.reply.append_raised.Given as goal

abbrev pub invariant-loop-event : goal.invariant-loop-event
invariant-loop-event l = l.text ++ raised_text l.chart (drop l.event-index l.raised) ≡ l.fn.text ++ raised_text l.chart l.raised
