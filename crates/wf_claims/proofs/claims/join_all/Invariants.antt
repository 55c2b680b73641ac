use Rattle.std.proofs.Common.{◌≡◌, ℕ, ◌+◌, length}
use Rattle.wf_claims.specs.Counts.{times}
use Rattle.wf_claims.specs.Draws.{EmptyIfIdle}
use Rattle.wf_claims.specs.Seats.{AreAt, drawn_times}
use Rattle.wf_claims.proofs.claims.join_all.Given as goal

abbrev pub invariant-loop-one : goal.invariant-loop-one
invariant-loop-one l =
    (l.all.table_id ≡ l.table.shared.table_id)
    × (l.table ≡ l.fn.table)
    × AreAt l.table.shared.table_id l.seats.items
    × EmptyIfIdle l.all.me.0
    × (l.all.me.0.parts + length l.seats.items ≡ length l.fn.seats.items)
    × ((x : ℕ) → times x l.all.me.0.drawn + drawn_times x l.seats.items ≡ drawn_times x l.fn.seats.items)

abbrev pub decreases-loop-one : goal.decreases-loop-one
decreases-loop-one l = length l.seats.items
