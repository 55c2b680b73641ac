use Rattle.std.proofs.Common.{◌≡◌, ◌++◌, drop, flat_map}
use Rattle.wf_play.specs.Ending.{unit_line}
use Rattle.wf_play.proofs.ending.append_units.Given as goal

abbrev pub invariant-loop-sight : goal.invariant-loop-sight
invariant-loop-sight l = l.text ++ flat_map (unit_line l.chart) (drop l.sight-index l.sights) ≡ l.fn.text ++ flat_map (unit_line l.chart) l.sights
