use Rattle.std.proofs.Common.{length}
use Rattle.wf_scripts.proofs.Divided.{IsBehind}
use Rattle.wf_scripts.proofs.lines.divide.Given as goal

abbrev pub invariant-loop-line : goal.invariant-loop-line
invariant-loop-line l = IsBehind l.input l.rest

abbrev pub decreases-loop-line : goal.decreases-loop-line
decreases-loop-line l = length l.rest
