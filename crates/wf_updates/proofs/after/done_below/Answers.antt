use Rattle.std.proofs.Common.{◌≡◌, ◌∙◌, map}
use Rattle.std.specs.List.{range_with_len}
use Rattle.std.proofs.lemmas.Result.{IfOk-weaker}
use Rattle.wf_model.proofs.Rows.{row_agree}
use Rattle.wf_semantics.specs.Items.{done_count}
use Rattle.wf_views.specs.Views.{completions_in}
use Rattle.wf_updates.specs.Tables.{count_of}
use Rattle.wf_updates.proofs.Tabled.{done_counted}
use Rattle.wf_updates.proofs.after.done_below.Goals as goal

pub returns : goal.returns
returns c =
    let given = c.as_slice.result.now in
    let cs = completions_in c.args.next.now in
    let count = c.args.count in
    IfOk-weaker c.counts_below.result (λ counts. counts.items ≡ map (count_of given) (range_with_len 0 count)) (λ counts. counts.items ≡ map (λ a. done_count a cs) (range_with_len 0 count))
    (λ counts row. row ∙ row_agree (count_of given) (λ a. done_count a cs) count (λ k lt. done_counted cs c.in_ok-numbers.numbers.items given c.in_ok-numbers.ensures c.as_slice.ensures.value k))
    c.counts_below.ensures
