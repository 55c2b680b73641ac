use Rattle.std.proofs.Common.{take}
use Rattle.std.specs.List.{list_any}
use Rattle.wf_parts.specs.Reads.{action_reads}
use Rattle.wf_partition.specs.Marked.{Adds}
use Rattle.wf_partition.proofs.reading.add_actions.Given as goal

abbrev pub invariant-loop-action : goal.invariant-loop-action
invariant-loop-action l = Adds (λ r. list_any (action_reads r) (take l.action-index l.actions)) l.initial.reads l.reads
