use Rattle.std.proofs.Common.{◌≡◌, ◌∙◌, map}
use Rattle.std.specs.List.{range_with_len}
use Rattle.std.proofs.lemmas.Result.{IfOk-weaker}
use Rattle.wf_model.specs.declared.ids.StateId.{StateId}
use Rattle.wf_model.specs.declared.update.Update.{Update}
use Rattle.wf_model.proofs.Rows.{row_agree}
use Rattle.wf_views.specs.Absorbing.{is_flipped}
use Rattle.wf_updates.specs.Tables.{is_among}
use Rattle.wf_updates.proofs.Tabled.{among_flat}
use Rattle.wf_updates.proofs.after.flipped_below.Goals as goal

pub returns : goal.returns
returns c =
    let given = c.as_slice-2.result.now in
    let all = c.args.all.now in
    let count = c.args.count in
    IfOk-weaker c.bits_below.result (λ bits. bits ≡ map (is_among given) (range_with_len 0 count)) (λ bits. bits ≡ map (is_flipped all) (range_with_len 0 count))
    (λ bits row. row ∙ row_agree (is_among given) (is_flipped all) count (λ k lt.
    among_flat (λ (it : StateId). it.0) (λ (update : Update). update.flips) all c.in_ok-flips.flips c.as_slice.result.now c.in_ok-numbers.numbers.items given c.in_ok-flips.ensures c.as_slice.ensures c.in_ok-numbers.ensures c.as_slice-2.ensures.value k))
    c.bits_below.ensures
