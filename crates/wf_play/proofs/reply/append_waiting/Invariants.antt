use Rattle.std.proofs.Common.{◌≡◌, ◌++◌, drop, flat_map}
use Rattle.std.specs.List.{enumerate_from}
use Rattle.wf_play.specs.Replies.{name_in, waiting_text}
use Rattle.wf_play.proofs.reply.append_waiting.Given as goal

abbrev pub invariant-loop-unit : goal.invariant-loop-unit
invariant-loop-unit l =
    l.text ++ flat_map (name_in l.set) (enumerate_from l.unit (drop l.unit l.chart.units)) ≡ l.fn.text ++ waiting_text l.chart l.set
