use Rattle.wf_semantics.proofs.LawsHold.{default_is_configuration}
use Rattle.wf_semantics.proofs.laws.default_is_configuration.Goals as goal

pub returns : goal.returns
returns c = default_is_configuration
