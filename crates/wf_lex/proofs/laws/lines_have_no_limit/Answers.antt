use Rattle.wf_lex.proofs.Endless.{line_has_no_limit}
use Rattle.wf_lex.proofs.laws.lines_have_no_limit.Goals as goal

pub returns : goal.returns
returns c = line_has_no_limit
