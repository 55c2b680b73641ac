use Rattle.std.proofs.Common.{◌≡◌, ◌*◌, map, take}
use Rattle.wf_parts.specs.Rows.{row_of}
use Rattle.wf_parts.proofs.rows.rows_of.Given as goal

abbrev pub invariant-loop-trans : goal.invariant-loop-trans
invariant-loop-trans g l = l.rows ≡ map (row_of (64 * g.row.W) l.transitions) (take l.trans-index l.transitions)
