-- One more name in a map from names to numbers.
use Rattle.std.proofs.Common.{◌≡◌, ℕ, false, cond, List, Option, Some, None, is_some, refl, sym, ◌∙◌, ap, true≢false, inl, inr}
use Rattle.std.specs.Option.{option_or}
use Rattle.std.specs.Str.{bytes_eq}
use Rattle.std.proofs.lemmas.Slice.Eq.{bytes_eq-Decides}
use Rattle.std.proofs.lemmas.Bool.{cases_Bool}

option_or-None : (o : Option ℕ) → option_or o None ≡ o
option_or-None None = refl
option_or-None (Some x) = refl

not_test : (xs ys : List ℕ) → (xs ≡ ys → ⊥) → bytes_eq xs ys ≡ false
not_test xs ys differ =
    elim (cases_Bool (bytes_eq xs ys)) [ inl same ↦ absurd (differ ((bytes_eq-Decides xs ys).0 same)) | inr other ↦ other ]

-- a new name is found by its number, and the others as before
pub noted : (before : List ℕ → Option ℕ) (name word : List ℕ) (number : ℕ) → before name ≡ None
    → cond (bytes_eq name word) (Some number) (before word) ≡ option_or (before word) (cond (bytes_eq word name) (Some number) None)
noted before name word number new =
    elim (cases_Bool (bytes_eq word name)) [
      | inl same ↦
          let e : word ≡ name = (bytes_eq-Decides word name).0 same in
          let there : before word ≡ None = ap before e ∙ new in
          rw ((bytes_eq-Decides name word).1 (sym e), same, there) refl
      | inr other ↦
          let apart : bytes_eq name word ≡ false = not_test name word (λ e. true≢false (sym ((bytes_eq-Decides word name).1 (sym e)) ∙ other)) in
          rw (apart, other) (sym (option_or-None (before word)))
    ]

pub none_found : (o : Option ℕ) → is_some o ≡ false → o ≡ None
none_found None h = refl
none_found (Some x) h = absurd (true≢false h)
