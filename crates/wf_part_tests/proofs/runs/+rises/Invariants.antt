use Rattle.std.proofs.Common.{length}
use Rattle.wf_part_tests.proofs.runs.+rises.Given as goal

abbrev pub decreases-rises : goal.decreases-rises
decreases-rises l = length l.entries.now
