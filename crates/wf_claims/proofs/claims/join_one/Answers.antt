use Rattle.std.proofs.Common.{arith, rules}
use Rattle.wf_claims.proofs.DrawLemmas.{join_kept}
use Rattle.wf_claims.proofs.claims.join_one.Goals as goal

pub join_seat-requires : goal.join_seat-requires
join_seat-requires c =
    let part = c.one.invariant.part in (
      search rules,
      search rules,
      c.one.invariant.empty,
      search rules,
      λ s holds at other at_other. (holds.0, join_kept _ _ _ _ _ _ _ s.views c.requires.all (λ none_left. absurd (omega arith)) at at_other holds.1),
    )
