use Rattle.wf_grammar.proofs.ReadSpelled.{read_is_spelled}
use Rattle.wf_grammar.proofs.laws.read_is_spelled.Goals as goal

pub returns : goal.returns
returns c = read_is_spelled
