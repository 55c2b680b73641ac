use Rattle.std.proofs.Common.{ap, false}
use Rattle.std.specs.Option.{option_map_or}
use Rattle.wf_parts.specs.Reads.{guard_reads}
use Rattle.wf_partition.proofs.Adding.{adds_none}
use Rattle.wf_partition.proofs.reading.add_guard.Goals as goal

pub returns-in-None : goal.returns-in-None
returns-in-None c = adds_none (λ r. guard_reads r c.args.transition.now) c.args.reads.now (λ r. ap (λ o. option_map_or r o false) c.in-None.is)
