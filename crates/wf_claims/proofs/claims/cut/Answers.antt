use Rattle.std.proofs.Common.{rules}
use Rattle.wf_claims.proofs.DrawLemmas.{cut_kept, one_share}
use Rattle.wf_claims.proofs.claims.cut.Goals as goal

pub split_seat-seat-requires : goal.split_seat-seat-requires
split_seat-seat-requires c =
    let v = c.args.first.now.me.0 in
    (search rules, search rules, λ s holds at. (holds.0, cut_kept _ _ _ c.args.first.now.id v s.views c.requires.more (one_share v.parts v.limit v.left c.args.n c.requires.more (search rules) (search rules)) (search rules) at holds.1))
