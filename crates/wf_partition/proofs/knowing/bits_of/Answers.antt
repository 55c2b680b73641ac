use Rattle.std.proofs.Common.{◌≡◌, IfOk, subst}
use Rattle.wf_partition.specs.Marked.{unit_bits}
use Rattle.wf_partition.proofs.knowing.bits_of.Goals as goal

pub returns : goal.returns
returns c = subst (λ x. IfOk c.bits_where.result (λ bits. bits ≡ unit_bits x c.args.unit.0)) c.chart.ensures.same c.bits_where.ensures
