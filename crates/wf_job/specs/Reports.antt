-- Of other calls. The written text of what came of a job.
use Rattle.std.specs.Prelude.{ℕ, ◌++◌, List, flat_map}
use Rattle.std.specs.Fmt.{decimal}
use lib.Chars.{codes}
use Rattle.wf_model.specs.declared.ids.ActId.{ActId}
use Rattle.wf_model.specs.declared.chart.Chart.{Chart}
use Rattle.wf_scripts.specs.Lines.{behind_line}
use Rattle.wf_audit.specs.Replies.{starts_text}
use Rattle.wf_play.specs.Ending.{ending_text}
use Rattle.wf_job.specs.declared.report.ClientReply.{ClientReply}
use Rattle.wf_job.specs.declared.report.ClientReply.TheVariants as reply
use Rattle.wf_job.specs.declared.report.Report.{Report}

-- new N | again N | reused N
abbrev pub answer_text : ClientReply → List ℕ
answer_text (reply.New n) = codes "new " ++ decimal n
answer_text (reply.Again n) = codes "again " ++ decimal n
answer_text (reply.Reused n) = codes "reused " ++ decimal n

-- client C line I, and the reply
abbrev pub reply_line : ℕ × ℕ × ClientReply → List ℕ
reply_line (client, line, answer) =
    codes "client " ++ decimal client ++ codes " line " ++ decimal line ++ codes " " ++ answer_text answer ++ codes "\n"

-- worker W did, and ` A#n` for each item
abbrev pub did_line : Chart → ℕ × List (ActId × ℕ) → List ℕ
did_line chart (worker, items) = codes "worker " ++ decimal worker ++ codes " did" ++ starts_text chart items ++ codes "\n"

-- the lines of replies, those of workers, and those of the end as a play has them, without the first one, `end`
unfoldable pub report_text : Chart → Report → List ℕ
report_text chart report =
    flat_map reply_line report.replies ++ flat_map (did_line chart) report.did ++ behind_line (ending_text chart report.ending)
