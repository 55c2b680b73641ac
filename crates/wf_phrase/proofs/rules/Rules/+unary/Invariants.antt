use Rattle.std.proofs.Common.{length}
use Rattle.wf_phrase.proofs.rules.Rules.+unary.Given as goal

abbrev pub decreases-unary : goal.decreases-unary
decreases-unary g l = length l.cursor.now.left
