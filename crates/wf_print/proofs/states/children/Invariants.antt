use Rattle.std.proofs.Common.{◌≡◌}
use Rattle.wf_print.proofs.Gathered.{gathered}
use Rattle.wf_print.proofs.states.children.Given as goal

abbrev pub invariant-loop-s : goal.invariant-loop-s
invariant-loop-s l = l.table.items ≡ gathered l.chart l.s
