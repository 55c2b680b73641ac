use Rattle.std.proofs.Common.{length}
use Rattle.wf_part_tests.proofs.runs.+goes_on.Given as goal

abbrev pub decreases-goes_on : goal.decreases-goes_on
decreases-goes_on l = length l.outer.now
