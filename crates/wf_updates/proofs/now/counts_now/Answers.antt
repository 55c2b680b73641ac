use Rattle.std.proofs.Common.{◌≡◌, ◌==◌, ◌-◌, find}
use Rattle.std.specs.Option.{option_map}
use Rattle.std.proofs.lemmas.Result.{IfOk-weaker}
use Rattle.wf_semantics.specs.Items.{done_count}
use Rattle.wf_views.specs.Views.{completions_in}
use Rattle.wf_updates.specs.Tables.{entry, given_by}
use Rattle.wf_updates.proofs.Pairs.{counts_told}
use Rattle.wf_updates.proofs.now.counts_now.Goals as goal

pub returns : goal.returns
returns c =
    let unclosed = c.args.unclosed.now in
    let cs = completions_in c.args.next.now in
    IfOk-weaker c.table_of.result (λ table. entry table ≡ given_by c.as_slice-3.result.now) (λ table. entry table ≡ (λ a. option_map (λ c. c.1 - done_count c.0.0 cs) (find (λ c. c.0.0 == a) unclosed)))
    (λ table told. counts_told unclosed cs c.in_ok-done.done.items c.as_slice-2.result.now c.in_ok-numbers.numbers.items c.as_slice.result.now c.past_numbers.result c.in_ok-pairs.pairs.items c.as_slice-3.result.now table
    c.in_ok-numbers.ensures c.as_slice.ensures.value c.past_numbers.ensures c.in_ok-done.ensures c.as_slice-2.ensures.value c.in_ok-pairs.ensures c.as_slice-3.ensures.value told) c.table_of.ensures
