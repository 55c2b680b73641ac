use Rattle.std.proofs.Common.{◌≡◌, ◌∙◌, ℕ, Option, Some, None, ap, sym, take, arith, ◌+◌, rules, refl}
use Rattle.std.specs.Prelude.{replicate}
use Rattle.wf_model.specs.declared.update.Write.{Write}
use Rattle.wf_model.proofs.Rows.{row_len, row_at}
use Rattle.wf_actions.specs.Writes.{winner, over}
use Rattle.wf_updates.proofs.Rows.{row_same, row_step, row_stays, winner_here, winner_other}
use Rattle.wf_updates.proofs.tables.writes_below.Goals as goal
use Rattle.wf_updates.proofs.tables.writes_below.Goals.{then-at-len, else-at-len}

pub loop-write-init : goal.loop-write-init
loop-write-init c =
    let none : c.in_ok-best.best.items ≡ replicate c.args.count None = search rules in
    none ∙ row_same None c.args.count

pub loop-write-preserved : goal.loop-write-preserved
loop-write-preserved c =
    let writes = c.args.writes.now in
    let i = c.loop-write.write-index in
    let o = c.write-item.result in
    let f = λ (x : ℕ). winner x (take i writes) in
    let g = λ (x : ℕ). winner x (take (i + 1) writes) in
    let many = row_len f c.args.count c.loop-write.best.items c.loop-write.invariant in
    elim c.if-at-len.branch [
      | then-at-len w ↦
          row_step f g c.args.count o.var.0 (Some w.winning_write.result) c.loop-write.best.items c.if-at-len.best.items c.loop-write.invariant (ap (λ v. v.items) w.best-is)
          (winner_here writes i o.var.0 o c.loop-write-test.true c.write-item.is refl
          ∙ ap (λ (b : Option Write). over b o) (sym (w.index.ensures ∙ row_at f c.args.count o.var.0 w.index.result.now c.loop-write.best.items c.loop-write.invariant (omega (arith, w.if-at-len.true)))) ∙ sym w.winning_write.ensures)
          (λ k ne. winner_other writes i o.var.0 o k c.loop-write-test.true c.write-item.is refl ne)
      | else-at-len w ↦
          ap (λ v. v.items) w.best-is
          ∙ row_stays f g c.args.count o.var.0 c.loop-write.best.items c.loop-write.invariant (omega (arith, w.if-at-len.false)) (λ k ne. winner_other writes i o.var.0 o k c.loop-write-test.true c.write-item.is refl ne)
    ]
