-- How many items a step starts at most, and how many a unit has then.
use Rattle.std.proofs.Common.{◌≡◌, ℕ, zero, suc, ◌+◌, ◌*◌, ◌≤◌, Bool, true, false, cond, List, [], ◌∷◌, length, filter, Option, Some, None, unwrap_or, slice_get, refl, ◌∙◌, ap, arith, length-append}
use Rattle.std.proofs.lemmas.List.{length-map}
use Rattle.std.proofs.lemmas.List.FromFn.{length-range_with_len}
use Rattle.std.specs.Option.{option_map}
use Rattle.wf_model.specs.Limits.{max_transitions, max_actions}
use Rattle.wf_model.specs.declared.chart.Action.{Action}
use Rattle.wf_model.specs.declared.chart.Action.TheVariants.{Assign, Raise, Start}
use Rattle.wf_model.specs.declared.chart.Transition.{Transition}
use Rattle.wf_model.specs.declared.chart.Chart.{Chart}
use Rattle.wf_model.specs.declared.outer.Entry.{Entry}
use Rattle.wf_model.specs.declared.update.StartAt.{StartAt}
use Rattle.wf_model.specs.Accepted.{IsAccepted}
use Rattle.wf_model.specs.Tree.{all_transitions}
use Rattle.wf_semantics.specs.Items.{Item, Completion, close, close_all, new_item}
use Rattle.wf_semantics.specs.Effects.{actions_of, starts_from, starts_of}
use Rattle.wf_semantics.specs.Run.{CentralState, fired_in, new_items, is_at}
use Rattle.wf_semantics.proofs.Facts.{chart_of}
use Rattle.wf_effects.proofs.Expressions.{actions_are}

filter_few : {A : Type 0} (p : A → Bool) (xs : List A) → length (filter p xs) ≤ length xs
filter_few p [] = omega arith
filter_few p (x ∷ xs) = go (p x) (filter_few p xs)
  where
    go : (b : Bool) → length (filter p xs) ≤ length xs → length (cond b (x ∷ filter p xs) (filter p xs)) ≤ suc (length xs)
    go true h = omega arith
    go false h = omega arith

-- a step starts as many items as fired transitions have actions, at most
from_few : (t place : ℕ) (acts : List Action) → length (starts_from t place acts) ≤ length acts
from_few t place [] = omega arith
from_few t place (Assign x value ∷ rest) = omega (arith, from_few t (place + 1) rest)
from_few t place (Raise e ∷ rest) = omega (arith, from_few t (place + 1) rest)
from_few t place (Start a ∷ rest) = omega (arith, from_few t (place + 1) rest)

actions_few : (chart : Chart) → IsAccepted chart → (t : ℕ) → length (actions_of chart t) ≤ max_actions
actions_few chart ok t = go (slice_get chart.transitions t) refl
  where
    go : (o : Option Transition) → slice_get chart.transitions t ≡ o → length (unwrap_or (option_map (λ trans. trans.actions) o) []) ≤ max_actions
    go None e = omega arith
    go (Some trans) e = (actions_are chart t trans ok e).few

starts_few : (chart : Chart) → IsAccepted chart → (ts : List ℕ) → length (starts_of chart ts) ≤ length ts * max_actions
starts_few chart ok [] = omega arith
starts_few chart ok (t ∷ ts) =
    omega (arith, length-append (starts_from t 0 (actions_of chart t)) (starts_of chart ts), from_few t 0 (actions_of chart t), actions_few chart ok t, starts_few chart ok ts)

fired_few : (chart : Chart) (c : CentralState) (entries : List Entry) → length (fired_in chart c entries) ≤ length (all_transitions chart)
unfolding fired_in
fired_few chart c entries = filter_few _ (all_transitions chart)

pub few_starts : (chart : Chart) → IsAccepted chart → (c : CentralState) (entries : List Entry) → length (starts_of chart (fired_in chart c entries)) ≤ max_transitions * max_actions
few_starts chart ok c entries =
    omega (
      arith,
      starts_few chart ok (fired_in chart c entries),
      fired_few chart c entries,
      length-range_with_len 0 (length chart.transitions),
      (chart_of chart ok).few_transitions,
    )

-- closing keeps the number of items, and a unit gets no more new ones than there are starts
close_length : (n : ℕ) (items : List Item) → length (close n items) ≡ length items
close_length n [] = refl
close_length zero (x ∷ xs) = refl
close_length (suc zero) (x ∷ xs) = refl
close_length (suc (suc n)) (x ∷ xs) = ap suc (close_length (suc n) xs)

pub closed_length : (cs : List Completion) (items : List Item) → length (close_all cs items) ≡ length items
closed_length [] items = refl
closed_length (c ∷ cs) items = closed_length cs (close c.item items) ∙ close_length c.item items

pub new_few : (chart : Chart) (u : ℕ) (starts : List StartAt) → length (new_items chart u starts) ≤ length starts
new_few chart u starts = omega (arith, length-map (filter (is_at chart u) starts) (λ s. new_item s.act), filter_few (is_at chart u) starts)
