use Rattle.std.proofs.Common.{◌≡◌, ◌++◌, drop, flat_map}
use Rattle.wf_play.specs.Ending.{recovery_line}
use Rattle.wf_play.proofs.ending.append_recoveries.Given as goal

abbrev pub invariant-loop-unit : goal.invariant-loop-unit
invariant-loop-unit l = l.text ++ flat_map (recovery_line l.chart) (drop l.unit-index l.recovered) ≡ l.fn.text ++ flat_map (recovery_line l.chart) l.recovered
