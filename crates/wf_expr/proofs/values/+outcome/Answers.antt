use Rattle.std.proofs.Common.{rules}
use Rattle.wf_model.specs.declared.expr.Expr.{the_lemmas}
use Rattle.wf_model.specs.ValuesLaws.{HasAll-Bin}
use Rattle.wf_model.proofs.Bools.{and_both}
use Rattle.wf_expr.specs.Ints.{has_small_ints, small-Bin}
use Rattle.wf_expr.proofs.values.+outcome.Goals as goal

pub outcome-requires-in-Bin : goal.outcome-requires-in-Bin
outcome-requires-in-Bin g t c κs within =
    let seen = g.S.Snapshot.seen c.args.snap.now in
    let small = rw small-Bin at (rw c.in-Bin.is at c.requires.small) in
    let known = rw c.in-Bin.is at c.requires.known in
    (search (rules, the_lemmas), (search rules, (rw c.get-in-Bin.ensures (and_both (has_small_ints c.in-Bin.left) (has_small_ints c.in-Bin.right) small).0, rw c.get-in-Bin.ensures (HasAll-Bin seen c.in-Bin.op c.in-Bin.left c.in-Bin.right known).0)))

pub outcome-requires-in-Bin-2 : goal.outcome-requires-in-Bin-2
outcome-requires-in-Bin-2 g t c κs within =
    let seen = g.S.Snapshot.seen c.args.snap.now in
    let small = rw small-Bin at (rw c.in-Bin.is at c.requires.small) in
    let known = rw c.in-Bin.is at c.requires.known in
    (search (rules, the_lemmas), (search rules, (rw c.get-in-Bin-2.ensures (and_both (has_small_ints c.in-Bin.left) (has_small_ints c.in-Bin.right) small).1, rw c.get-in-Bin-2.ensures (HasAll-Bin seen c.in-Bin.op c.in-Bin.left c.in-Bin.right known).1)))
