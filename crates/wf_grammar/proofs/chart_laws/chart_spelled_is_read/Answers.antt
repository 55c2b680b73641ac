use Rattle.wf_grammar.proofs.ChartSpelled.{chart_spelled}
use Rattle.wf_grammar.proofs.chart_laws.chart_spelled_is_read.Goals as goal

pub returns : goal.returns
returns c = chart_spelled
