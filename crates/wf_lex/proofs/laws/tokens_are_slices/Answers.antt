use Rattle.wf_lex.proofs.Sliced.{tokens_sliced}
use Rattle.wf_lex.proofs.laws.tokens_are_slices.Goals as goal

pub returns : goal.returns
returns c = tokens_sliced c.args.text.now c.args.tokens.now c.requires
