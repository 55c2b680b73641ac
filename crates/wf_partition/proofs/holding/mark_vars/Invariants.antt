use Rattle.std.proofs.Common.{◌≡◌, ◌==◌, take}
use Rattle.std.specs.List.{list_any}
use Rattle.wf_partition.specs.Marked.{marked}
use Rattle.wf_partition.proofs.holding.mark_vars.Given as goal

abbrev pub invariant-loop-v : goal.invariant-loop-v
invariant-loop-v l = l.vars ≡ marked (λ x. list_any (λ v. v.0 == x) (take l.v-index l.outputs)) l.initial.vars
