-- The first input that isn't what was sent, piece by piece.
use Rattle.std.proofs.Common.{◌≡◌, ℕ, suc, ◌+◌, ◌-◌, ◌<◌, ◌≤◌, not, cond, Bool, true, false, ◌&&◌, List, [], ◌∷◌, ◌++◌, map, flat_map, drop, length, get_or, Option, Some, None, refl, sym, ap, ap₂, ◌∙◌, arith, drop-cons, true≢false}
use Rattle.std.specs.Prelude.{find}
use Rattle.std.specs.Option.{option_or}
use Rattle.std.specs.List.{list_all, range_with_len}
use Rattle.std.proofs.lemmas.List.{drop_all}
use Rattle.std.proofs.lemmas.List.Folds.{find-append}
use Rattle.wf_model.specs.declared.update.Update.{Update}
use Rattle.wf_model.proofs.Bools.{and_both}
use Rattle.wf_parts.specs.declared.data.PartData.{PartData}
use Rattle.wf_histories.specs.Histories.{History}
use Rattle.wf_agreement.specs.declared.agreement.Agreement.{Agreement}
use Rattle.wf_agreement.specs.declared.agreement.Agreement.TheVariants as agreement
use Rattle.wf_agreement.specs.Differing.{Input, read_by, inputs_in, most_taken, is_sent, first_of, first_difference, told}

-- none is found exactly where all pass
pub none_all : {A : Type 0} (p : A → Bool) (xs : List A) → find (λ x. not (p x)) xs ≡ None → list_all p xs ≡ true
none_all p [] h = refl
none_all {A} p (x ∷ xs) h = go (p x) h (none_all p xs)
  where
    go : (b : Bool) → cond (not b) (Some x) (find (λ y. not (p y)) xs) ≡ None → (find (λ y. not (p y)) xs ≡ None → list_all p xs ≡ true) → (b && list_all p xs) ≡ true
    go true e rest = rest e
    go false e rest = absurd (no e)
      where
        no : ◌≡◌ {A = Option A} (Some x) None → ⊥
        no q = cc

pub all_none : {A : Type 0} (p : A → Bool) (xs : List A) → list_all p xs ≡ true → find (λ x. not (p x)) xs ≡ None
all_none p [] h = refl
all_none {A} p (x ∷ xs) h = let both = and_both (p x) (list_all p xs) h in go (p x) both.0 (all_none p xs both.1)
  where
    go : (b : Bool) → b ≡ true → find (λ y. not (p y)) xs ≡ None → cond (not b) (Some x) (find (λ y. not (p y)) xs) ≡ None
    go true e rest = rest
    go false e rest = absurd (true≢false (sym e))

-- pieces by their numbers, from a on, up to m
abbrev pub from_on : (ℕ → List Input) → ℕ → ℕ → List Input
from_on piece a m = flat_map piece (range_with_len a (m - a))

pub from_zero : (piece : ℕ → List Input) (m : ℕ) → from_on piece 0 m ≡ flat_map piece (range_with_len 0 m)
from_zero piece m = ap (λ (k : ℕ). flat_map piece (range_with_len 0 k)) (let e : m - 0 ≡ m = omega arith in e)

pub from_start : (n : ℕ) (part : ℕ → PartData) (h : ℕ → History) → first_of part h (from_on (inputs_in n h) 0 (most_taken n h)) ≡ first_difference n part h
unfolding first_difference
from_start n part h = ap (first_of part h) (from_zero (inputs_in n h) (most_taken n h))

module _ (part : ℕ → PartData) (h : ℕ → History) where
  abbrev differs : Input → Bool
  differs input = not (is_sent part h input)

  told_none : (o : Option Input) → told part h o ≡ agreement.Agree → o ≡ None
  told_none None e = refl
  told_none (Some x) e = cc

  -- a piece without a difference
  passed : (xs ys : List Input) → agreement.Agree ≡ told part h (first_of part h xs) → first_of part h (xs ++ ys) ≡ first_of part h ys
  passed xs ys e =
      find-append differs xs ys ∙ ap (λ (o : Option Input). option_or o (first_of part h ys)) (told_none (first_of part h xs) (sym e))

  -- one with a difference
  stopped : (found : Agreement) (xs ys : List Input) → found ≡ told part h (first_of part h xs) → (found ≡ agreement.Agree → ⊥) → found ≡ told part h (first_of part h (xs ++ ys))
  stopped found xs ys e differ = go (first_of part h xs) e ∙ ap (told part h) (sym (find-append differs xs ys))
    where
      go : (o : Option Input) → found ≡ told part h o → found ≡ told part h (option_or o (first_of part h ys))
      go None q = absurd (differ q)
      go (Some x) q = q

  -- one piece more
  module _ (piece : ℕ → List Input) where
    front : (a m : ℕ) → a < m → from_on piece a m ≡ piece a ++ from_on piece (a + 1) m
    front a m lt = ap (λ (k : ℕ). flat_map piece (range_with_len a k)) (let q : m - a ≡ suc (m - (a + 1)) = omega (arith, lt) in q)

    pub piece_passes : (a m : ℕ) → a < m → agreement.Agree ≡ told part h (first_of part h (piece a)) → first_of part h (from_on piece a m) ≡ first_of part h (from_on piece (a + 1) m)
    piece_passes a m lt e = ap (first_of part h) (front a m lt) ∙ passed (piece a) (from_on piece (a + 1) m) e

    pub piece_stops : (found : Agreement) (a m : ℕ) → a < m → found ≡ told part h (first_of part h (piece a)) → (found ≡ agreement.Agree → ⊥) → found ≡ told part h (first_of part h (from_on piece a m))
    piece_stops found a m lt e differ = stopped found (piece a) (from_on piece (a + 1) m) e differ ∙ ap (λ (l : List Input). told part h (first_of part h l)) (sym (front a m lt))

    pub none_left : (a m : ℕ) → m ≤ a → first_of part h (from_on piece a m) ≡ None
    none_left a m le = ap (λ (k : ℕ). first_of part h (flat_map piece (range_with_len a k))) (let q : m - a ≡ 0 = omega (arith, le) in q)

  -- the inputs of a Turn
  module _ (u : ℕ) (xs : List Update) where
    front_input : (i : ℕ) (x : Update) → i < length xs → x ≡ get_or xs i x → map (read_by u) (drop i xs) ≡ read_by u x ∷ map (read_by u) (drop (i + 1) xs)
    front_input i x lt is =
        ap (map (read_by u)) (drop-cons xs i x lt)
        ∙ ap₂ (λ (y : Update) (k : ℕ). read_by u y ∷ map (read_by u) (drop k xs)) (sym is) (let q : suc i ≡ i + 1 = omega arith in q)

    pub input_passes : (i : ℕ) (x : Update) → i < length xs → x ≡ get_or xs i x → is_sent part h (read_by u x) ≡ true → first_of part h (map (read_by u) (drop i xs)) ≡ first_of part h (map (read_by u) (drop (i + 1) xs))
    input_passes i x lt is e =
        ap (first_of part h) (front_input i x lt is) ∙ ap (λ (b : Bool). cond (not b) (Some (read_by u x)) (first_of part h (map (read_by u) (drop (i + 1) xs)))) e

    pub input_stops : (i : ℕ) (x : Update) → i < length xs → x ≡ get_or xs i x → is_sent part h (read_by u x) ≡ false → first_of part h (map (read_by u) (drop i xs)) ≡ Some (read_by u x)
    input_stops i x lt is e =
        ap (first_of part h) (front_input i x lt is) ∙ ap (λ (b : Bool). cond (not b) (Some (read_by u x)) (first_of part h (map (read_by u) (drop (i + 1) xs)))) e

    pub no_input_left : (i : ℕ) → length xs ≤ i → first_of part h (map (read_by u) (drop i xs)) ≡ None
    no_input_left i le = ap (λ (l : List Update). first_of part h (map (read_by u) l)) (drop_all i xs le)
