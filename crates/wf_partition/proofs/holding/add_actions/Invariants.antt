use Rattle.std.proofs.Common.{take}
use Rattle.std.specs.List.{list_any}
use Rattle.wf_partition.specs.Marked.{Holds}
use Rattle.wf_partition.proofs.holding.add_actions.Given as goal

abbrev pub invariant-loop-action : goal.invariant-loop-action
invariant-loop-action l = Holds (λ t. list_any t (take l.action-index l.actions)) l.initial.held l.held
