use Rattle.std.proofs.Common.{◌≡◌, map}
use Rattle.std.specs.List.{range_with_len}
use Rattle.wf_scopes.specs.Tables.{ancestor_ids}
use Rattle.wf_scopes.proofs.lineages.lineages.Given as goal

abbrev pub invariant-loop-state : goal.invariant-loop-state
invariant-loop-state l = l.table ≡ map (ancestor_ids l.chart) (range_with_len 0 l.state-index)
