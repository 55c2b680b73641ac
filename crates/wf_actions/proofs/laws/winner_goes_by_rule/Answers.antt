use Rattle.wf_actions.proofs.Ranked.{by_rule}
use Rattle.wf_actions.proofs.laws.winner_goes_by_rule.Goals as goal

pub returns : goal.returns
returns c = λ writes x. by_rule x writes
