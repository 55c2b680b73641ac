use Rattle.wf_grammar.proofs.OneReading.{spells_one}
use Rattle.wf_grammar.proofs.laws.spells_one.Goals as goal

pub returns : goal.returns
returns c = spells_one
