-- A line more of an input without a divider.
use Rattle.std.proofs.Common.{◌≡◌, ◌≢◌, ℕ, suc, ◌+◌, ◌-◌, ◌<◌, ◌==◌, not, true, false, List, [], ◌∷◌, ◌++◌, length, take, drop, refl, sym, ◌∙◌, ap, arith, inl, inr, append_assoc, length-append, length-drop}
use Rattle.std.proofs.lemmas.Bool.{cases_Bool}
use Rattle.std.proofs.lemmas.List.{take-append-drop}
use Rattle.std.proofs.lemmas.List.Sums.{take_while-cons}
use Rattle.std.proofs.Math.Seq.{take-append_seam}
use Rattle.wf_scripts.specs.Lines.{first_line, behind_line, is_divider, before_divider, behind_divider}

-- how many bytes the first line and its LF have
abbrev pub size : List ℕ → ℕ
size bytes = length (first_line bytes) + 1

-- the rest stands behind whole lines that are no divider
abbrev pub IsBehind : (input rest : List ℕ) → Type 0
IsBehind input rest =
    (front : List ℕ) × (front ++ rest ≡ input) × (before_divider true input ≡ front ++ before_divider true rest)
    × (behind_divider true input ≡ behind_divider true rest)

-- a byte before a line
pub first_line-more : (b : ℕ) (bytes : List ℕ) → (b == 10) ≡ false → first_line (b ∷ bytes) ≡ b ∷ first_line bytes
first_line-more b bytes goes_on = take_while-cons (λ c. not (c == 10)) b bytes ∙ rw goes_on refl

pub size-more : (b : ℕ) (bytes : List ℕ) → (b == 10) ≡ false → size (b ∷ bytes) ≡ suc (size bytes)
size-more b bytes goes_on =
    let longer : length (b ∷ first_line bytes) + 1 ≡ suc (length (first_line bytes) + 1) = omega arith in
    ap (λ xs. length xs + 1) (first_line-more b bytes goes_on) ∙ longer

-- LF alone
pub first_line-lf : (b : ℕ) (bytes : List ℕ) → (b == 10) ≡ true → first_line (b ∷ bytes) ≡ []
first_line-lf b bytes ends = take_while-cons (λ c. not (c == 10)) b bytes ∙ rw ends refl

pub size-lf : (b : ℕ) (bytes : List ℕ) → (b == 10) ≡ true → size (b ∷ bytes) ≡ 1
size-lf b bytes ends = ap (λ xs. length xs + 1) (first_line-lf b bytes ends)

-- up to the next line no divider begins
before_line : (bytes : List ℕ) → before_divider false bytes ≡ take (size bytes) bytes ++ before_divider true (behind_line bytes)
before_line [] = refl
before_line (b ∷ bytes) =
    let split : ℕ → List ℕ = λ n. take n (b ∷ bytes) ++ before_divider true (drop n (b ∷ bytes)) in
    elim (cases_Bool (b == 10)) [
      | inl ends ↦ ap (λ f. b ∷ before_divider f bytes) ends ∙ ap split (sym (size-lf b bytes ends))
      | inr goes_on ↦
          ap (λ f. b ∷ before_divider f bytes) goes_on ∙ ap (λ xs. b ∷ xs) (before_line bytes) ∙ ap split (sym (size-more b bytes goes_on))
    ]

behind_lf : (bytes : List ℕ) → behind_divider false bytes ≡ behind_divider true (behind_line bytes)
behind_lf [] = refl
behind_lf (b ∷ bytes) =
    let split : ℕ → List ℕ = λ n. behind_divider true (drop n (b ∷ bytes)) in
    elim (cases_Bool (b == 10)) [
      | inl ends ↦ ap (λ f. behind_divider f bytes) ends ∙ ap split (sym (size-lf b bytes ends))
      | inr goes_on ↦ ap (λ f. behind_divider f bytes) goes_on ∙ behind_lf bytes ∙ ap split (sym (size-more b bytes goes_on))
    ]

-- a line that is no divider
before_other : (bytes : List ℕ) → is_divider (first_line bytes) ≡ false → before_divider true bytes ≡ take (size bytes) bytes ++ before_divider true (behind_line bytes)
before_other [] other = refl
before_other (b ∷ bytes) other = rw other (before_line (b ∷ bytes))

behind_other : (bytes : List ℕ) → is_divider (first_line bytes) ≡ false → behind_divider true bytes ≡ behind_divider true (behind_line bytes)
behind_other [] other = refl
behind_other (b ∷ bytes) other = rw other (behind_lf (b ∷ bytes))

-- and then the rest stands behind that line too
pub is_behind-more : (input rest : List ℕ) → is_divider (first_line rest) ≡ false → IsBehind input rest → IsBehind input (behind_line rest)
is_behind-more input rest other (front, whole, before, behind) = (
  front ++ take (size rest) rest,
  append_assoc front (take (size rest) rest) (behind_line rest) ∙ ap (λ xs. front ++ xs) (take-append-drop (size rest) rest) ∙ whole,
  before ∙ ap (λ xs. front ++ xs) (before_other rest other) ∙ sym (append_assoc front (take (size rest) rest) (before_divider true (behind_line rest))),
  behind ∙ behind_other rest other,
)

-- what stands before the rest
pub front_of : (input rest front : List ℕ) → front ++ rest ≡ input → take (length input - length rest) input ≡ front
front_of input rest front whole =
    let long : length input - length rest ≡ length front = omega (arith, ap length whole, length-append front rest) in
    ap (λ n. take n input) long ∙ ap (take (length front)) (sym whole) ∙ take-append_seam front rest

-- at a divider the chart's text ends
pub before_here : (rest : List ℕ) → is_divider (first_line rest) ≡ true → before_divider true rest ≡ []
before_here [] divider = refl
before_here (b ∷ rest) divider = rw divider refl

pub behind_here : (rest : List ℕ) → is_divider (first_line rest) ≡ true → behind_divider true rest ≡ behind_line rest
behind_here [] divider = refl
behind_here (b ∷ rest) divider = rw divider refl

-- a line makes the rest shorter
pub behind_line-shorter : (rest : List ℕ) → rest ≢ [] → length (behind_line rest) < length rest
behind_line-shorter [] some = absurd (some refl)
behind_line-shorter (b ∷ rest) some = omega (arith, length-drop (size (b ∷ rest)) (b ∷ rest))
