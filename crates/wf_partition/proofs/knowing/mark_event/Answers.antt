use Rattle.std.proofs.Common.{ap, false, ◌==◌}
use Rattle.std.specs.Option.{option_map_or}
use Rattle.wf_parts.specs.Reads.{is_on}
use Rattle.wf_partition.proofs.Bits.{marked_none}
use Rattle.wf_partition.proofs.knowing.mark_event.Goals as goal

pub returns-in-None : goal.returns-in-None
returns-in-None c =
    marked_none (λ n. is_on n c.args.transition.now) c.args.events.now (λ n. ap (λ o. option_map_or (λ event. event.0 == n) o false) c.in-None.is)
