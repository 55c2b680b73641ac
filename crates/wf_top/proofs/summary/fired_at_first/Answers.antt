use Rattle.std.proofs.Common.{◌≡◌, ◌≤◌, ◌∙◌, ℕ, List, min, length, take, ap, ap₂, sym, subst, arith}
use Rattle.std.proofs.lemmas.List.{take_min, length-take}
use Rattle.wf_model.specs.Limits.{max_steps}
use Rattle.wf_model.specs.declared.chart.Chart.{Chart}
use Rattle.wf_model.specs.declared.outer.Entry.{Entry}
use Rattle.wf_semantics.specs.Run.{first_state}
use Rattle.wf_runs.specs.Runs.{IsRun}
use Rattle.wf_world.specs.States.{state_of}
use Rattle.wf_top.specs.Summaries.{merged_entries, fired_along}
use Rattle.wf_top.proofs.Plays.{if_ok}
use Rattle.wf_top.proofs.Summaries.{merged_are, merged_runs, first_steps}
use Rattle.wf_top.proofs.summary.fired_at_first.Goals as goal

pub fired_count-requires : goal.fired_count-requires
fired_count-requires c =
    let kept = c.args.world.now in
    let m = (state_of kept).machine in
    let steps : c.as_slice.result.now ≡ merged_entries m = c.as_slice.ensures ∙ c.in_ok-steps.ensures ∙ merged_are m c.args.merged.now c.requires.list in
    let whole = merged_runs kept (c.history-history.ensures.lean c.requires.whole) (c.history-history.ensures.count c.requires.whole) in
    let run : IsRun kept.chart (take c.min.result (merged_entries m)) = first_steps kept.chart (first_state kept.chart) c.min.result (merged_entries m) whole in
    let few : length (take c.min.result c.as_slice.result.now) ≤ max_steps = omega (arith, length-take c.min.result c.as_slice.result.now, c.min.ensures) in
    record {
      run = subst (λ (l : List (List Entry)). IsRun c.checked.result.now (take c.min.result l)) (sym steps) (subst (λ (k : Chart). IsRun k (take c.min.result (merged_entries m))) (sym c.checked.ensures) run);
      few = few;
    }

pub returns : goal.returns
returns c =
    let kept = c.args.world.now in
    let m = (state_of kept).machine in
    let steps : c.as_slice.result.now ≡ merged_entries m = c.as_slice.ensures ∙ c.in_ok-steps.ensures ∙ merged_are m c.args.merged.now c.requires.list in
    let size : c.min.result ≡ min 1004 (length (merged_entries m)) = c.min.ensures ∙ ap (min 1004) (c.len.ensures ∙ ap length (sym c.as_slice.ensures ∙ steps)) in
    let counted : take c.min.result c.as_slice.result.now ≡ take 1004 (merged_entries m) =
    ap₂ (λ (n : ℕ) (l : List (List Entry)). take n l) size steps ∙ take_min 1004 (merged_entries m) in
    if_ok c.fired_count.result
    (λ count is. is ∙ ap₂ (λ (k : Chart) (l : List (List Entry)). length (fired_along k (first_state k) l)) c.checked.ensures counted) c.fired_count.ensures
