use Rattle.std.proofs.Common.{◌≡◌, map}
use Rattle.std.specs.List.{range_with_len}
use Rattle.wf_semantics.specs.Configuration.{is_in}
use Rattle.wf_semantics.specs.Entry.{entry_tree}
use Rattle.wf_scopes.proofs.entries.row_of.Given as goal

abbrev pub invariant-loop-z : goal.invariant-loop-z
invariant-loop-z l = l.row ≡ map (λ s. is_in s (entry_tree l.chart l.t.0)) (range_with_len 0 l.z)
