use Rattle.std.proofs.Common.{◌≡◌, map}
use Rattle.std.specs.List.{range_with_len}
use Rattle.wf_scopes.specs.Tables.{entry_row}
use Rattle.wf_scopes.proofs.entries.entries.Given as goal

abbrev pub invariant-loop-t : goal.invariant-loop-t
invariant-loop-t l = l.table ≡ map (entry_row l.chart) (range_with_len 0 l.t)
