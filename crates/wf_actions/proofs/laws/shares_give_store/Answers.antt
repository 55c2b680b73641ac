use Rattle.wf_actions.proofs.Stored.{shares_store}
use Rattle.wf_actions.proofs.laws.shares_give_store.Goals as goal

pub returns : goal.returns
returns c = shares_store
