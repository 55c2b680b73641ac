use Rattle.std.proofs.Common.{◌≡◌, ◌∙◌, List, [], sym, ap}
use Rattle.wf_model.specs.declared.update.StartAt.{StartAt}
use Rattle.wf_steps.specs.Items.{in_order}
use Rattle.wf_steps.proofs.Fits.{none_in_order}
use Rattle.wf_steps.proofs.preparing.listed_starts.Goals as goal

pub returns-then-is_empty : goal.returns-then-is_empty
returns-then-is_empty c =
    let none : c.in_ok-own.own ≡ [] = c.is_empty.ensures.0 c.if-is_empty.true in
    none ∙ sym (ap (λ (starts : List StartAt). in_order starts) (sym c.in_ok-own.ensures ∙ none) ∙ none_in_order)
