use Rattle.std.proofs.Common.{◌≡◌, ◌∙◌, map}
use Rattle.std.specs.List.{range_with_len}
use Rattle.std.proofs.lemmas.Result.{IfOk-weaker}
use Rattle.wf_model.proofs.Rows.{row_agree}
use Rattle.wf_views.specs.Absorbing.{start_count, starts_in}
use Rattle.wf_updates.specs.Tables.{count_of}
use Rattle.wf_updates.proofs.Tabled.{start_counted}
use Rattle.wf_updates.proofs.after.started_below.Goals as goal

pub returns : goal.returns
returns c =
    let given = c.as_slice-2.result.now in
    let starts = starts_in c.args.all.now in
    let count = c.args.count in
    IfOk-weaker c.counts_below.result (λ counts. counts.items ≡ map (count_of given) (range_with_len 0 count)) (λ counts. counts.items ≡ map (λ a. start_count a starts) (range_with_len 0 count))
    (λ counts row. row ∙ row_agree (count_of given) (λ a. start_count a starts) count (λ k lt.
    start_counted starts c.as_slice.result.now c.in_ok-numbers.numbers.items given (c.as_slice.ensures ∙ c.in_ok-starts.ensures) c.in_ok-numbers.ensures c.as_slice-2.ensures.value k))
    c.counts_below.ensures
