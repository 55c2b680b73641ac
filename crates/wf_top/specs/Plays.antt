-- The text of a play: the reply to each of its lines, and its ending.
use Rattle.std.specs.Prelude.{ℕ, ◌++◌, List, flat_map}
use Rattle.wf_model.specs.declared.chart.Chart.{Chart}
use Rattle.wf_machine.specs.declared.ending.Ending.{Ending}
use Rattle.wf_machine.specs.declared.line.Line.{Line}
use Rattle.wf_machine.specs.declared.reply.Reply.{Reply}
use Rattle.wf_machine.specs.Machine.{first_machine}
use Rattle.wf_machine.specs.Runs.{Outcomes, replies_to, after_lines, ending}
use Rattle.wf_audit.specs.Replies.{numbered}
use Rattle.wf_play.specs.Replies.{reply_text}
use Rattle.wf_play.specs.Ending.{ending_text}

-- the line of a reply, with the number of the line that it answers
abbrev pub reply_line : Chart → ℕ × Reply → List ℕ
reply_line chart x = numbered x.0 (reply_text chart x.1)

-- the lines of replies, and those of an ending
abbrev pub told_text : Chart → List (ℕ × Reply) → Ending → List ℕ
told_text chart replies end = flat_map (reply_line chart) replies ++ ending_text chart end

-- the text of a play, where its doubts turn out so
unfoldable pub play_text : Chart → List (ℕ × Line) → Outcomes → List ℕ
play_text chart lines outcomes =
    told_text chart (replies_to chart (first_machine chart) outcomes.at_lines lines)
    (ending chart (after_lines chart (first_machine chart) outcomes.at_lines lines) outcomes.at_end)
