use Rattle.std.proofs.Common.{◌≡◌, ◌-◌, ◌+◌, length}
use Rattle.wf_model.specs.Tree.{ancestors_by, ancestors, parent}
use Rattle.wf_check.proofs.tree.count_ancestors.Given as goal

abbrev pub invariant-loop-count : goal.invariant-loop-count
invariant-loop-count l = length (ancestors l.chart l.s) ≡ l.count + length (ancestors_by (parent l.chart) (l.s - l.count) l.at)
