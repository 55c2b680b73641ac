use Rattle.std.proofs.Common.{◌∙◌, ◌++◌, ◌∷◌, [], sym, ap₂, arith, List, ℕ}
use Rattle.std.proofs.lemmas.List.FromFn.{map-range_with_len_more}
use Rattle.wf_print.proofs.states.no_children.Goals as goal

pub loop-state-preserved : goal.loop-state-preserved
loop-state-preserved c =
    c.in_ok-push.ensures.items ∙ ap₂ (λ (l : List (List ℕ)) (x : List ℕ). l ++ x ∷ []) c.loop-state.invariant c.new.ensures
    ∙ sym (map-range_with_len_more (λ _. []) 0 c.loop-state._state c.loop-state._state (omega arith))
