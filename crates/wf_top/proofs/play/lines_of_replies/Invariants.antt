use Rattle.std.proofs.Common.{◌≡◌, ◌++◌, ◌≤◌, length, drop, flat_map}
use Rattle.wf_model.specs.Limits.{max_report}
use Rattle.wf_top.specs.Plays.{reply_line}
use Rattle.wf_top.proofs.play.lines_of_replies.Given as goal

abbrev pub invariant-loop-number : goal.invariant-loop-number
invariant-loop-number l = record {
  text : l.text ++ flat_map (reply_line l.checked) (drop l.number-index l.replies) ≡ flat_map (reply_line l.checked) l.replies;
  short : length l.text ≤ max_report;
}
