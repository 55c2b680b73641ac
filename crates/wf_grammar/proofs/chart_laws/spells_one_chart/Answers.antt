use Rattle.wf_grammar.proofs.ChartSpelled.{spells_one_chart}
use Rattle.wf_grammar.proofs.chart_laws.spells_one_chart.Goals as goal

pub returns : goal.returns
returns c = spells_one_chart
