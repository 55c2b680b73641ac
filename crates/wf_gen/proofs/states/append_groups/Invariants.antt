use Rattle.std.proofs.Common.{◌≡◌, ◌++◌}
use Rattle.wf_gen.specs.GenChart.{groups}
use Rattle.wf_gen.proofs.states.append_groups.Given as goal

abbrev pub invariant-loop-r : goal.invariant-loop-r
invariant-loop-r l = l.states ≡ l.fn.states ++ groups l.r
