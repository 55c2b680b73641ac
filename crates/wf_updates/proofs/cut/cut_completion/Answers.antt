use Rattle.std.proofs.Common.{◌∙◌, true, false, sym, true≢false}
use Rattle.std.specs.List.{list_any}
use Rattle.wf_updates.specs.Tables.{told_by}
use Rattle.wf_updates.proofs.Cuts.{passes_by_rest, completion_kept, completion_left, or_first, or_second}
use Rattle.wf_updates.proofs.cut.cut_completion.Goals as goal
use Rattle.wf_updates.proofs.cut.cut_completion.Goals.{then-has, else-has}

pub returns-then-not-is_empty : goal.returns-then-not-is_empty
returns-then-not-is_empty c =
    let known = told_by c.args.known.now in
    let passes = list_any (λ o. known.vars o.var.0) c.args.outputs.now in
    completion_kept known c.args.item c.args.act c.args.outputs.now c.in_ok-outputs.outputs c.in_ok-outputs.ensures
    (elim c.if-has.branch [
      | then-has w ↦ or_first (known.acts c.args.act.0) passes true (sym c.has.ensures ∙ w.if-has.true)
      | else-has w ↦ or_second (known.acts c.args.act.0) passes true (sym c.has.ensures ∙ w.if-has.false)
          (passes_by_rest known c.args.outputs.now c.in_ok-outputs.outputs w.is_empty.result c.in_ok-outputs.ensures w.is_empty.ensures ∙ sym w.value-is ∙ c.if-not-is_empty.true)
    ])

pub returns-else-not-is_empty : goal.returns-else-not-is_empty
returns-else-not-is_empty c =
    let known = told_by c.args.known.now in
    let passes = list_any (λ o. known.vars o.var.0) c.args.outputs.now in
    completion_left known c.args.item c.args.act c.args.outputs.now
    (elim c.if-has.branch [
      | then-has w ↦ absurd (true≢false (sym w.if-has.true ∙ sym w.value-is ∙ c.if-not-is_empty.false))
      | else-has w ↦ or_second (known.acts c.args.act.0) passes false (sym c.has.ensures ∙ w.if-has.false)
          (passes_by_rest known c.args.outputs.now c.in_ok-outputs.outputs w.is_empty.result c.in_ok-outputs.ensures w.is_empty.ensures ∙ sym w.value-is ∙ c.if-not-is_empty.false)
    ])
