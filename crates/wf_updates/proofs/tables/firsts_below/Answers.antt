use Rattle.std.proofs.Common.{◌≡◌, ◌∙◌, Some, None, ap, sym, take, arith, ◌+◌, rules, refl}
use Rattle.std.specs.Prelude.{replicate}
use Rattle.std.specs.Option.{option_or}
use Rattle.wf_model.proofs.Rows.{row_len, row_at}
use Rattle.wf_updates.specs.Tables.{given_by}
use Rattle.wf_updates.proofs.Rows.{row_same, row_step, row_stays}
use Rattle.wf_updates.proofs.Pairs.{given_here, given_other}
use Rattle.wf_updates.proofs.tables.firsts_below.Goals as goal
use Rattle.wf_updates.proofs.tables.firsts_below.Goals.{then-at-len, else-at-len}

pub loop-pair-init : goal.loop-pair-init
loop-pair-init g c =
    let none : c.in_ok-firsts.firsts.items ≡ replicate c.args.count None = search rules in
    none ∙ row_same None c.args.count

pub loop-pair-preserved : goal.loop-pair-preserved
loop-pair-preserved g c =
    let pairs = c.args.pairs.now in
    let i = c.loop-pair.pair-index in
    let p = c.pair-item.result in
    let f = given_by (take i pairs) in
    let h = given_by (take (i + 1) pairs) in
    let many = row_len f c.args.count c.loop-pair.firsts.items c.loop-pair.invariant in
    elim c.if-at-len.branch [
      | then-at-len w ↦
          row_step f h c.args.count p.0 w.or.result c.loop-pair.firsts.items c.if-at-len.firsts.items c.loop-pair.invariant (ap (λ v. v.items) w.firsts-is)
          (given_here pairs i p.0 p c.loop-pair-test.true c.pair-item.is refl
          ∙ ap (λ o. option_or o (Some p.1)) (sym (w.index.ensures ∙ row_at f c.args.count p.0 w.index.result.now c.loop-pair.firsts.items c.loop-pair.invariant (omega (arith, w.if-at-len.true)))) ∙ sym w.or.ensures)
          (λ k ne. given_other pairs i p.0 p k c.loop-pair-test.true c.pair-item.is refl ne)
      | else-at-len w ↦
          ap (λ v. v.items) w.firsts-is
          ∙ row_stays f h c.args.count p.0 c.loop-pair.firsts.items c.loop-pair.invariant (omega (arith, w.if-at-len.false)) (λ k ne. given_other pairs i p.0 p k c.loop-pair-test.true c.pair-item.is refl ne)
    ]
