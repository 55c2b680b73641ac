use Rattle.wf_print.proofs.NestedText.{states_read}
use Rattle.wf_print.proofs.laws.states_read.Goals as goal

pub returns : goal.returns
returns c = states_read
