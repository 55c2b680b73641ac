use Rattle.std.proofs.Common.{[], arith, rules, subst, ap, ◌∙◌}
use Rattle.wf_claims.specs.Counts.{times}
use Rattle.wf_claims.specs.Draws.{first_hand}
use Rattle.wf_claims.specs.Seats.{AreAt, drawn_times}
use Rattle.wf_claims.proofs.DrawLemmas.{nobody_enters, at_front, drawn_snoc, times_append}
use Rattle.wf_claims.proofs.claims.join_all.Goals as goal

pub load_new_seat-all-requires : goal.load_new_seat-all-requires
load_new_seat-all-requires c = (search rules, nobody_enters _ _ (first_hand c.args.table.now.shared.key, []))

pub join_one-requires-clause-table : goal.join_one-requires-clause-table
join_one-requires-clause-table c =
    let at = c.loop-one.invariant.2 in
    let split = at_front c.args.table.now.shared.table_id c.pop.new.self.items c.in-Some.one (subst (AreAt c.args.table.now.shared.table_id) c.in-Some.ensures.items at) in
    (search rules, search rules, split.1)

pub loop-one-preserved : goal.loop-one-preserved
loop-one-preserved c =
    let i = c.loop-one.invariant in
    let e = c.join_one.ensures.all in
    let split = at_front c.args.table.now.shared.table_id c.pop.new.self.items c.in-Some.one (subst (AreAt c.args.table.now.shared.table_id) c.in-Some.ensures.items i.2) in (
      search rules,
      search rules,
      split.0,
      e.0,
      search rules,
      λ x.
          let h = i.5 x in
          let s = ap (drawn_times x) c.in-Some.ensures.items ∙ drawn_snoc x c.pop.new.self.items c.in-Some.one in
          let d = ap (times x) e.2 ∙ times_append x c.loop-one.all.me.0.drawn c.in-Some.one.drawn in
          omega arith,
    )
