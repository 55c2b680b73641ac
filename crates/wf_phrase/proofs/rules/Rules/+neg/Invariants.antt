use Rattle.std.proofs.Common.{length}
use Rattle.wf_phrase.proofs.rules.Rules.+neg.Given as goal

abbrev pub decreases-neg : goal.decreases-neg
decreases-neg g l = length l.cursor.now.left
