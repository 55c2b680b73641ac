use Rattle.std.proofs.Common.{◌∙◌, List, filter, ap, rules}
use Rattle.std.proofs.lemmas.List.Sorted.{answers_always}
use Rattle.wf_model.specs.declared.update.StartAt.{StartAt}
use Rattle.wf_actions.specs.Order.{place_of, is_at}
use Rattle.wf_actions.proofs.Placed.{stays}
use Rattle.wf_actions.proofs.order.starts.Goals as goal

pub returns-clause-ordered : goal.returns-clause-ordered
returns-clause-ordered c = rw c.from_vec.ensures (c.in_ok-sort_by_key.ensures.sorted place_of (answers_always _ _ _ (λ f a r g h. search rules)))

pub returns-clause-kept : goal.returns-clause-kept
returns-clause-kept c t place =
    rw c.from_vec.ensures (stays _ _ (c.in_ok-sort_by_key.ensures.stable place_of (answers_always _ _ _ (λ f a r g h. search rules))) t place)
    ∙ ap (λ (l : List StartAt). filter (is_at t place) l) (c.into_vec-all.ensures ∙ c.in_ok-concatenation.ensures)
