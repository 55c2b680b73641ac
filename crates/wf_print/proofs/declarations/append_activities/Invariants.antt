use Rattle.std.proofs.Common.{◌≡◌, ◌++◌, drop, flat_map}
use Rattle.wf_print.specs.Declarations.{activity_line}
use Rattle.wf_print.proofs.declarations.append_activities.Given as goal

abbrev pub invariant-loop-activity : goal.invariant-loop-activity
invariant-loop-activity l = l.text ++ flat_map (activity_line l.chart) (drop l.activity-index l.activities) ≡ l.fn.text ++ flat_map (activity_line l.chart) l.activities
