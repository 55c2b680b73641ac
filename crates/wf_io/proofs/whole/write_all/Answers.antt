use Rattle.std.proofs.Common.{◌∙◌, arith, length-drop}
use Rattle.std.proofs.Math.Seq.{take-add}
use Rattle.std.proofs.lemmas.List.{take_rest}
use Rattle.wf_io.proofs.Known.{appends_on}
use Rattle.wf_io.proofs.whole.write_all.Goals as goal

pub loop-done-preserved : goal.loop-done-preserved
loop-done-preserved g c =
    let rest = take_rest c.args.bytes.now c.loop-done.done in
    let bound = rw rest at c.in_ok-done.ensures.bound in
    let wrote = rw rest at c.in_ok-done.ensures.bytes in (
      omega (arith, bound, length-drop c.loop-done.done c.args.bytes.now),
      rw (take-add c.loop-done.done c.in_ok-done.field-0 c.args.bytes.now)
          (appends_on _ _ _ _ _ c.loop-done.invariant.1 wrote),
      c.in_ok-done.ensures.cause.kept ∙ c.loop-done.invariant.2,
    )
