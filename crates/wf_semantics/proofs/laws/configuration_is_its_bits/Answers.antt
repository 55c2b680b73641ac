use Rattle.wf_semantics.proofs.LawsHold.{configuration_is_its_bits}
use Rattle.wf_semantics.proofs.laws.configuration_is_its_bits.Goals as goal

pub returns : goal.returns
returns c = configuration_is_its_bits
