use Rattle.wf_grammar.proofs.ChartRead.{chart_read}
use Rattle.wf_grammar.proofs.chart_laws.chart_read_is_spelled.Goals as goal

pub returns : goal.returns
returns c = chart_read
