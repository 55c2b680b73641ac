use Rattle.std.proofs.Common.{◌≡◌, ◌==◌, take}
use Rattle.std.specs.List.{list_any}
use Rattle.wf_partition.specs.Marked.{marked}
use Rattle.wf_partition.proofs.marks.mark_all.Given as goal

abbrev pub invariant-loop-t : goal.invariant-loop-t
invariant-loop-t l = l.bits ≡ marked (λ t. list_any (λ x. x.0 == t) (take l.t-index l.transitions)) l.initial.bits
