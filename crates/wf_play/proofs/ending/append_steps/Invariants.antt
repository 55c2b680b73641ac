use Rattle.std.proofs.Common.{◌≡◌, ◌++◌, ◌+◌, drop, flat_map}
use Rattle.std.specs.List.{enumerate_from}
use Rattle.wf_play.specs.Ending.{step_line}
use Rattle.wf_play.proofs.ending.append_steps.Given as goal

abbrev pub invariant-loop-at : goal.invariant-loop-at
invariant-loop-at l =
    l.text ++ flat_map (step_line l.chart) (enumerate_from (l.at + 1) (drop l.at l.merged)) ≡ l.fn.text ++ flat_map (step_line l.chart) (enumerate_from 1 l.merged)
