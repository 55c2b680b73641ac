use Rattle.std.proofs.Common.{◌≡◌, ◌++◌, ◌∙◌, List, Option, filter_map, ap}
use Rattle.std.specs.List.{range_with_len}
use Rattle.wf_model.specs.declared.update.Write.{Write}
use Rattle.wf_actions.specs.Writes.{winner, past_variables, merged}
use Rattle.wf_actions.proofs.Winners.{present_map}
use Rattle.wf_actions.proofs.writes.merge_writes.Goals as goal

pub returns-clause-ok : goal.returns-clause-ok
returns-clause-ok c =
    let slots = c.as_slice-3.ensures.value ∙ c.in_ok-winners.ensures in
    let shown = c.in_ok-into.ensures ∙ ap (λ (l : List (Option Write)). filter_map (λ slot. slot) l) slots in
    let copied = c.in_ok-all.ensures ∙ c.as_slice.ensures in
    let all : c.as_slice-2.result.now ≡ c.args.into.now ++ c.args.more.now =
    c.as_slice-2.ensures ∙ c.in_ok-append.ensures.ok ∙ ap (λ (l : List Write). l ++ c.args.more.now) copied in
    shown ∙ present_map (λ x. winner x c.as_slice-2.result.now) (range_with_len 0 (past_variables c.as_slice-2.result.now)) ∙ ap (λ (l : List Write). merged l) all
