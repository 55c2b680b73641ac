use Rattle.wf_readback.proofs.Spelled.{chart_is_read_back}
use Rattle.wf_readback.proofs.laws.chart_is_read_back.Goals as goal

pub returns : goal.returns
returns c = chart_is_read_back
