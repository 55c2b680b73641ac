use Rattle.std.proofs.Common.{refl}
use Rattle.wf_claims.proofs.DrawLemmas.{seats_of}
use Rattle.wf_claims.proofs.claims.Claims.new.Goals as goal

pub returns-clause-seats : goal.returns-clause-seats
returns-clause-seats c =
    rw c.from_vec.ensures (seats_of record { home = c.in_ok-table.table.shared.table_id; n = c.args.n; seats = c.args.seats } c.in_ok-table.table.shared.table_id _ refl c.in_ok-cut_off.ensures.fresh)
