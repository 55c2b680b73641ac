use Rattle.std.proofs.Common.{◌≡◌, ◌+◌, length}
use Rattle.wf_claims.specs.Draws.{IsBank}
use Rattle.wf_claims.specs.Seats.{AreCut}
use Rattle.wf_claims.proofs.claims.cut_all.Given as goal

abbrev pub invariant-loop : goal.invariant-loop
invariant-loop l =
    (l.first.table_id ≡ l.table.shared.table_id)
    × (l.table ≡ l.fn.table) × (l.n ≡ l.fn.n) × (l.seats ≡ l.fn.seats)
    × IsBank l.n l.first.me
    × (l.first.me.0.parts + l.counter ≡ l.seats)
    × (length l.cut_off.items ≡ l.counter)
    × AreCut l.table.shared.table_id l.n l.cut_off.items
