use Rattle.wf_grammar.proofs.SpelledRead.{spelled_is_read}
use Rattle.wf_grammar.proofs.laws.spelled_is_read.Goals as goal

pub returns : goal.returns
returns c = spelled_is_read
