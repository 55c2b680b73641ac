use Rattle.std.proofs.Common.{◌∙◌, ℕ, ap, take, get_or, arith, ◌+◌, refl, sym}
use Rattle.wf_model.proofs.Rows.{row_at, row_len}
use Rattle.wf_updates.specs.Tables.{count_of}
use Rattle.wf_updates.proofs.Rows.{row_same, row_step, row_stays, count_here, count_other, count_small}
use Rattle.wf_updates.proofs.tables.counts_below.Goals as goal
use Rattle.wf_updates.proofs.tables.counts_below.Goals.{then-at-len, else-at-len}

pub loop-number-init : goal.loop-number-init
loop-number-init c = c.in_ok-counts.ensures.items_if_clones_equal (λ y h. h) ∙ row_same 0 c.args.count

pub overflow_add-index_mut : goal.overflow_add-index_mut
overflow_add-index_mut c =
    let numbers = c.args.numbers.now in
    let i = c.loop-number.number-index in
    let at = get_or c.args.numbers.now c.loop-number.number-index 0 in
    let many = row_len (count_of (take i numbers)) c.args.count c.loop-number.counts.items c.loop-number.invariant in
    let here = c.index_mut.ensures.value ∙ row_at (count_of (take i numbers)) c.args.count at c.index_mut.result.now c.loop-number.counts.items c.loop-number.invariant (omega arith) in
    omega (arith, count_small numbers i at, here)

pub loop-number-preserved : goal.loop-number-preserved
loop-number-preserved c =
    let numbers = c.args.numbers.now in
    let i = c.loop-number.number-index in
    let at = get_or c.args.numbers.now c.loop-number.number-index 0 in
    let f = count_of (take i numbers) in
    let g = count_of (take (i + 1) numbers) in
    let many = row_len f c.args.count c.loop-number.counts.items c.loop-number.invariant in
    elim c.if-at-len.branch [
      | then-at-len w ↦
          row_step f g c.args.count at (w.index_mut.result.now + 1) c.loop-number.counts.items c.if-at-len.counts.items c.loop-number.invariant (ap (λ v. v.items) w.counts-is)
          (count_here numbers i at c.loop-number-test.true refl
          ∙ ap (λ (n : ℕ). n + 1) (sym (w.index_mut.ensures.value ∙ row_at f c.args.count at w.index_mut.result.now c.loop-number.counts.items c.loop-number.invariant (omega (arith, w.if-at-len.true)))))
          (λ k ne. count_other numbers i at k c.loop-number-test.true refl ne)
      | else-at-len w ↦
          ap (λ v. v.items) w.counts-is
          ∙ row_stays f g c.args.count at c.loop-number.counts.items c.loop-number.invariant (omega (arith, w.if-at-len.false)) (λ k ne. count_other numbers i at k c.loop-number-test.true refl ne)
    ]
