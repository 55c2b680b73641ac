use Rattle.std.proofs.Common.{◌≡◌, ◌∙◌, Some, None, ap, take, arith, ◌+◌, rules, refl}
use Rattle.std.specs.Prelude.{replicate}
use Rattle.wf_model.proofs.Rows.{row_len}
use Rattle.wf_updates.specs.Tables.{last_of}
use Rattle.wf_updates.proofs.Rows.{row_same, row_step, row_stays, last_here, last_other}
use Rattle.wf_updates.proofs.tables.last_below.Goals as goal
use Rattle.wf_updates.proofs.tables.last_below.Goals.{then-at-len, else-at-len}

pub loop-output-init : goal.loop-output-init
loop-output-init c =
    let none : c.in_ok-last.last.items ≡ replicate c.args.count None = search rules in
    none ∙ row_same None c.args.count

pub loop-output-preserved : goal.loop-output-preserved
loop-output-preserved c =
    let outputs = c.args.outputs.now in
    let i = c.loop-output.output-index in
    let o = c.output-item.result in
    let f = last_of (take i outputs) in
    let g = last_of (take (i + 1) outputs) in
    let many = row_len f c.args.count c.loop-output.last.items c.loop-output.invariant in
    elim c.if-at-len.branch [
      | then-at-len w ↦
          row_step f g c.args.count o.var.0 (Some o.val) c.loop-output.last.items c.if-at-len.last.items c.loop-output.invariant (ap (λ v. v.items) w.last-is)
          (last_here outputs i o.var.0 o c.loop-output-test.true c.output-item.is refl)
          (λ k ne. last_other outputs i o.var.0 o k c.loop-output-test.true c.output-item.is refl ne)
      | else-at-len w ↦
          ap (λ v. v.items) w.last-is
          ∙ row_stays f g c.args.count o.var.0 c.loop-output.last.items c.loop-output.invariant (omega (arith, w.if-at-len.false)) (λ k ne. last_other outputs i o.var.0 o k c.loop-output-test.true c.output-item.is refl ne)
    ]
