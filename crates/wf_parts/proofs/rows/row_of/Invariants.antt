use Rattle.std.proofs.Common.{◌≡◌, ◌*◌, ◌&&◌, nat_lt, map}
use Rattle.std.specs.List.{range_with_len}
use Rattle.wf_model.specs.Bits.{bit}
use Rattle.wf_parts.specs.Rows.{names}
use Rattle.wf_parts.proofs.rows.row_of.Given as goal

abbrev pub invariant-loop-at : goal.invariant-loop-at
invariant-loop-at g l = l.row ≡ map (λ j. nat_lt j l.at && bit (map (λ other. names l.trans.blockers other.id.0) l.transitions) j) (range_with_len 0 (64 * g.row.W))
