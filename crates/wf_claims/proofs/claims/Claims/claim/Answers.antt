use Rattle.std.proofs.Common.{◌<◌, arith, rules, true}
use Rattle.wf_claims.proofs.DrawLemmas.{draws, sound_after, true_is_not, some_left}
use Rattle.wf_claims.proofs.claims.Claims.claim.Goals as goal

pub fetch_add-found-requires : goal.fetch_add-found-requires
fetch_add-found-requires c =
    let p = c.seat.invariant.part in
    (search rules, search rules, draws c.self.inside.table.shared.key c.self.inside.table.shared.table_id.slots c.seat.inside.seat.id c.seat.inside.seat.me (omega arith) (some_left _ _ _ c.seat.invariant (search rules)) (search rules))

pub invariant_of-seat : goal.invariant_of-seat
invariant_of-seat c =
    let inside : c.fetch_add-found.result < c.seat.inside.limit = search rules in
    sound_after c.seat.inside.limit c.fetch_add-found.result c.seat.inside.spent c.seat.inside.spent c.seat.inside.seat.me _ c.seat.invariant (search rules) (some_left _ _ _ c.seat.invariant (search rules)) (λ e. (inside, e))

pub invariant_of-seat-else-found-from : goal.invariant_of-seat-else-found-from
invariant_of-seat-else-found-from c =
    sound_after c.seat.inside.limit c.fetch_add-found.result c.seat.inside.spent true c.seat.inside.seat.me _ c.seat.invariant (search rules) (some_left _ _ _ c.seat.invariant (search rules)) (λ e. absurd (true_is_not e))
