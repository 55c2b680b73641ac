use Rattle.wf_phrase.proofs.expression.+parens.Given as goal

abbrev pub decreases-parens : goal.decreases-parens
decreases-parens l = l.depth
