use Rattle.std.proofs.Common.{ap}
use Rattle.wf_parts.specs.Reads.{action_reads}
use Rattle.wf_partition.proofs.Adding.{adds_none}
use Rattle.wf_partition.proofs.reading.add_action.Goals as goal

pub returns-in-Raise : goal.returns-in-Raise
returns-in-Raise c = adds_none (λ r. action_reads r c.args.action.now) c.args.reads.now (λ r. ap (action_reads r) c.in-Raise.is)

pub returns-in-Start : goal.returns-in-Start
returns-in-Start c = adds_none (λ r. action_reads r c.args.action.now) c.args.reads.now (λ r. ap (action_reads r) c.in-Start.is)
