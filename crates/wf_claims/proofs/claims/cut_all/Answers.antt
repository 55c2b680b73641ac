use Rattle.std.proofs.Common.{arith, rules, sym, subst}
use Rattle.wf_claims.specs.Seats.{AreCut}
use Rattle.wf_claims.proofs.DrawLemmas.{cut_snoc}
use Rattle.wf_claims.proofs.claims.cut_all.Goals as goal

pub loop-preserved : goal.loop-preserved
loop-preserved c =
    let i = c.loop.invariant in
    let e = c.cut.ensures.first in (
      search rules,
      search rules,
      search rules,
      search rules,
      search rules,
      omega arith,
      search rules,
      subst (λ ss. AreCut c.args.table.now.shared.table_id c.args.n ss) (sym c.in_ok-push.ensures.items) (cut_snoc c.args.table.now.shared.table_id c.args.n c.loop.cut_off.items c.cut.result (search rules) c.cut.ensures.seat),
    )
