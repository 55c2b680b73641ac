use Rattle.wf_actions.proofs.Raising.{shares_raised}
use Rattle.wf_actions.proofs.laws.shares_give_raised.Goals as goal

pub returns : goal.returns
returns c = shares_raised
