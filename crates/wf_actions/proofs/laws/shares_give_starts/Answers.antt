use Rattle.wf_actions.proofs.Started.{shares_starts}
use Rattle.wf_actions.proofs.laws.shares_give_starts.Goals as goal

pub returns : goal.returns
returns c = shares_starts
