-- Tests of lists that an update holds.
use Rattle.std.proofs.Common.{◌≡◌, ◌==◌, ◌∙◌, ap, refl, Bool, true, false, ◌&&◌, List, [], ◌∷◌, ◌++◌, length, ℕ, suc, ◌<◌, ◌≤◌, ◌+◌, sym, ap₂, get_or, take, drop, min, add-one, drop-cons, arith, inl, inr}
use Rattle.std.specs.List.{list_all, filter, flat_map, range_with_len, insert}
use Rattle.std.proofs.lemmas.List.{drop_all, take_all, append-nil}
use Rattle.std.proofs.lemmas.Grind.{flat_map-append}
use Rattle.wf_semantics.proofs.Children.{lt_or_ge}
use Rattle.wf_worlds.proofs.Growing.{range_push}
use Rattle.std.proofs.lemmas.List.Folds.{list_all-append}
use Rattle.wf_model.specs.Limits.{max_transitions}
use Rattle.wf_model.specs.declared.update.StartAt.{StartAt}
use Rattle.wf_model.specs.declared.update.Update.{Update}
use Rattle.wf_parts.specs.declared.data.Known.{Known}
use Rattle.wf_parts.specs.declared.data.PartData.{PartData}
use Rattle.wf_steps.specs.Fitting.{is_input, are_inputs_of}
use Rattle.wf_steps.specs.Items.{in_order}

pub all_flat : {A B : Type 0} (p : B → Bool) (f : A → List B) (xs : List A) → list_all p (flat_map f xs) ≡ list_all (λ x. list_all p (f x)) xs
all_flat p f [] = refl
all_flat p f (x ∷ xs) = list_all-append p (f x) (flat_map f xs) ∙ ap (λ (b : Bool). list_all p (f x) && b) (all_flat p f xs)

pub other_number : (part : PartData) (step : ℕ) (ps : List Known) (xs : List Update) → (length ps ≡ length xs → ⊥) → are_inputs_of part step ps xs ≡ false
other_number part step [] [] h = absurd (h refl)
other_number part step [] (x ∷ xs) h = refl
other_number part step (p ∷ ps) [] h = refl
other_number part step (p ∷ ps) (x ∷ xs) h = ap (λ (b : Bool). is_input part step p x && b) (other_number part step ps xs (λ e. h (ap suc e))) ∙ and_false (is_input part step p x)
  where
    and_false : (b : Bool) → (b && false) ≡ false
    and_false true = refl
    and_false false = refl

pub at_place : (part : PartData) (step : ℕ) (ps : List Known) (xs : List Update) (i : ℕ) (p : Known) (x : Update) → i < length ps → i < length xs → p ≡ get_or ps i p → x ≡ get_or xs i x
    → are_inputs_of part step (drop i ps) (drop i xs) ≡ (is_input part step p x && are_inputs_of part step (drop (i + 1) ps) (drop (i + 1) xs))
at_place part step ps xs i p x lp lx ep ex =
    ap₂ (are_inputs_of part step) (drop-cons ps i p lp) (drop-cons xs i x lx)
    ∙ ap₂ (λ (v : Known) (y : Update). is_input part step v y && are_inputs_of part step (drop (suc i) ps) (drop (suc i) xs)) (sym ep) (sym ex)
    ∙ ap (λ (j : ℕ). is_input part step p x && are_inputs_of part step (drop j ps) (drop j xs)) (sym (add-one i))

pub all_passed : (part : PartData) (step : ℕ) (ps : List Known) (xs : List Update) (i : ℕ) → length ps ≤ i → length xs ≤ i → are_inputs_of part step (drop i ps) (drop i xs) ≡ true
all_passed part step ps xs i lp lx = ap₂ (are_inputs_of part step) (drop_all i ps lp) (drop_all i xs lx)

-- one more of a range
pub by_more : {A : Type 0} (f : ℕ → List A) (n : ℕ) → flat_map f (range_with_len 0 n) ++ f n ≡ flat_map f (range_with_len 0 (n + 1))
by_more {A} f n =
    ap (λ (l : List A). flat_map f (range_with_len 0 n) ++ l) (sym (append-nil (f n)))
    ∙ ap (λ (k : ℕ). flat_map f (range_with_len 0 n) ++ (f k ++ [])) (let e : n ≡ 0 + n = omega arith in e)
    ∙ sym (flat_map-append f (range_with_len 0 n) ((0 + n) ∷ []))
    ∙ ap (flat_map f) (range_push 0 n)
    ∙ ap (λ (k : ℕ). flat_map f (range_with_len 0 k)) (let e : suc n ≡ n + 1 = omega arith in e)

-- a place past the end
pub insert_min : {A : Type 0} (xs : List A) (i : ℕ) (x : A) → insert xs (min i (length xs)) x ≡ insert xs i x
insert_min {A} xs i x = elim (lt_or_ge i (length xs)) [
  | inl l ↦ ap (λ (n : ℕ). take n xs ++ x ∷ drop n xs) (let e : min i (length xs) ≡ i = omega (arith, l) in e)
  | inr g ↦
      ap (λ (n : ℕ). take n xs ++ x ∷ drop n xs) (let e : min i (length xs) ≡ length xs = omega (arith, g) in e)
      ∙ ap₂ (λ (a b : List A). a ++ x ∷ b) (take_all (length xs) xs (omega arith) ∙ sym (take_all i xs g)) (drop_all (length xs) xs (omega arith) ∙ sym (drop_all i xs g))
]

-- nothing in order is nothing
nothing_by : {A : Type 0} (f : ℕ → List A) (ns : List ℕ) → ((n : ℕ) → f n ≡ []) → flat_map f ns ≡ []
nothing_by f [] none = refl
nothing_by {A} f (n ∷ ns) none = ap₂ (λ (a b : List A). a ++ b) (none n) (nothing_by f ns none)

pub none_in_order : in_order [] ≡ []
unfolding in_order
none_in_order = nothing_by (λ t. filter (λ (s : StartAt). s.trans.0 == t) []) (range_with_len 0 max_transitions) (λ n. refl)
