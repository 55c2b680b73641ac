use Rattle.wf_agreement.proofs.Agreed.{none_where_agreed}
use Rattle.wf_agreement.proofs.laws.none_where_agreed.Goals as goal

pub returns : goal.returns
returns c = none_where_agreed
