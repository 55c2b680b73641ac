use Rattle.std.proofs.Common.{◌≡◌, ◌∙◌, ◌<◌, ◌^◌, ℕ, [], sym, subst}
use Rattle.std.proofs.lemmas.Result.{IfOk-weaker}
use Rattle.wf_views.specs.Views.{completions_in}
use Rattle.wf_views.specs.Absorbing.{starts_in}
use Rattle.wf_updates.specs.After.{count_by, count_after, counted}
use Rattle.wf_updates.proofs.Tabled.{counts_at, counts_same, counts_kept, none_mapped, none_long}
use Rattle.wf_updates.proofs.after.open_counts_after.Goals as goal

pub counts_by-requires : goal.counts_by-requires
counts_by-requires c = λ k d lt.
    let same = counts_at c.args.unclosed.now (completions_in c.args.next.now) (starts_in c.args.all.now) c.as_slice-3.result.now c.as_slice-4.result.now c.in_ok-numbers.numbers.items c.as_slice-2.result.now c.past_numbers-count.result
    c.in_ok-numbers.ensures c.as_slice-2.ensures.value c.past_numbers-count.ensures (c.as_slice-3.ensures.value ∙ c.in_ok-done.ensures) (c.as_slice-4.ensures.value ∙ c.in_ok-started.ensures) k d lt in
    subst (λ (n : ℕ). n < 2 ^ 32) (sym same) (c.requires k d lt)

pub returns : goal.returns
returns c =
    let unclosed = c.args.unclosed.now in
    let done = c.as_slice-3.result.now in
    let started = c.as_slice-4.result.now in
    IfOk-weaker c.counts_by.result (λ counts. counts ≡ counted (count_by done started) unclosed) (λ counts. counts ≡ counted (count_after c.args.next.now c.args.all.now) unclosed)
    (λ counts e. e
    ∙ counts_same unclosed (completions_in c.args.next.now) (starts_in c.args.all.now) done started c.in_ok-numbers.numbers.items c.as_slice-2.result.now c.past_numbers-count.result
    c.in_ok-numbers.ensures c.as_slice-2.ensures.value c.past_numbers-count.ensures (c.as_slice-3.ensures.value ∙ c.in_ok-done.ensures) (c.as_slice-4.ensures.value ∙ c.in_ok-started.ensures))
    c.counts_by.ensures

pub returns-then-is_empty-2 : goal.returns-then-is_empty-2
returns-then-is_empty-2 c =
    let unclosed = c.args.unclosed.now in
    let cs = completions_in c.args.next.now in
    let none_done : cs ≡ [] = none_mapped (λ c. c.act.0) cs (sym c.in_ok-completed.ensures ∙ sym c.as_slice.ensures.value ∙ none_long c.as_slice.result.now (sym c.is_empty.ensures ∙ c.if-is_empty.true)) in
    let none_started : starts_in c.args.all.now ≡ [] = sym c.in_ok-starts.ensures ∙ c.is_empty-then-is_empty.ensures.0 c.if-is_empty-2.true in
    IfOk-weaker c.from_slice.result (λ counts. counts ≡ unclosed) (λ counts. counts ≡ counted (count_after c.args.next.now c.args.all.now) unclosed)
    (λ counts e. e ∙ counts_kept unclosed cs (starts_in c.args.all.now) none_done none_started) c.from_slice.ensures
