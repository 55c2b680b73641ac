use Rattle.std.proofs.Common.{◌≡◌, ◌∙◌, map, sym, ap}
use Rattle.std.specs.List.{range_with_len}
use Rattle.std.proofs.lemmas.Result.{IfOk-weaker}
use Rattle.wf_actions.specs.Writes.{winner}
use Rattle.wf_views.specs.Views.{outputs_in}
use Rattle.wf_views.specs.Absorbing.{writes_in}
use Rattle.wf_updates.specs.Tables.{last_of}
use Rattle.wf_updates.specs.After.{values_by, vars_after}
use Rattle.wf_updates.proofs.Tabled.{values_same, values_kept}
use Rattle.wf_updates.proofs.after.vars_after.Goals as goal

pub returns : goal.returns
returns c =
    let vars = c.args.vars.now in
    let count = c.past_numbers-count.result in
    let last = c.as_slice-4.result.now in
    let best = c.as_slice-5.result.now in
    IfOk-weaker c.values_by.result (λ values. values ≡ values_by vars last best) (λ values. values ≡ vars_after vars c.args.next.now c.args.all.now)
    (λ values e. e
    ∙ values_same vars (outputs_in c.args.next.now) (writes_in c.args.all.now) last best c.in_ok-numbers.numbers.items c.as_slice.result.now count
    c.in_ok-numbers.ensures c.as_slice.ensures.value c.past_numbers-count.ensures
    (c.as_slice-4.ensures.value ∙ c.in_ok-last.ensures ∙ ap (λ os. map (last_of os) (range_with_len 0 count)) (c.as_slice-2.ensures ∙ c.in_ok-outputs.ensures))
    (c.as_slice-5.ensures.value ∙ c.in_ok-best.ensures ∙ ap (λ ws. map (λ x. winner x ws) (range_with_len 0 count)) (c.as_slice-3.ensures ∙ c.in_ok-writes.ensures)))
    c.values_by.ensures

pub returns-then-is_empty-2 : goal.returns-then-is_empty-2
returns-then-is_empty-2 c =
    let vars = c.args.vars.now in
    IfOk-weaker c.from_slice.result (λ values. values ≡ vars) (λ values. values ≡ vars_after vars c.args.next.now c.args.all.now)
    (λ values e. e
    ∙ values_kept vars (outputs_in c.args.next.now) (writes_in c.args.all.now) (sym c.in_ok-outputs.ensures ∙ c.is_empty.ensures.0 c.if-is_empty.true) (sym c.in_ok-writes.ensures ∙ c.is_empty-then-is_empty.ensures.0 c.if-is_empty-2.true))
    c.from_slice.ensures
