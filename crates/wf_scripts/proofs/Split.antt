-- A text is its first line and the lines behind it.
use Rattle.std.proofs.Common.{◌≡◌, ◌≢◌, ℕ, ◌+◌, ◌==◌, true, false, List, [], ◌∷◌, length, drop, refl, sym, ◌∙◌, ap, ap₂, if◌then◌else◌, inl, inr, arith}
use Rattle.std.proofs.lemmas.Bool.{cases_Bool}
use Rattle.wf_scripts.specs.Lines.{lines_of, with_byte, first_line, behind_line}
use Rattle.wf_scripts.proofs.Divided.{size-more, size-lf, first_line-more, first_line-lf}

-- the first line of a text, where a byte stands before the rest
first_of-lf : (b : ℕ) (bytes : List ℕ) → (b == 10) ≡ true → lines_of (b ∷ bytes) ≡ first_line (b ∷ bytes) ∷ lines_of (behind_line (b ∷ bytes))
first_of-lf b bytes ends =
    ap (λ t. if t then [] ∷ lines_of bytes else with_byte b (lines_of bytes)) ends
    ∙ ap₂ (λ line n. line ∷ lines_of (drop n (b ∷ bytes))) (sym (first_line-lf b bytes ends)) (sym (size-lf b bytes ends))

first_of-more : (b : ℕ) (bytes : List ℕ) → (b == 10) ≡ false → with_byte b (lines_of bytes) ≡ (b ∷ first_line bytes) ∷ lines_of (behind_line bytes)
    → lines_of (b ∷ bytes) ≡ first_line (b ∷ bytes) ∷ lines_of (behind_line (b ∷ bytes))
first_of-more b bytes goes_on more =
    ap (λ t. if t then [] ∷ lines_of bytes else with_byte b (lines_of bytes)) goes_on ∙ more
    ∙ ap₂ (λ line n. line ∷ lines_of (drop n (b ∷ bytes))) (sym (first_line-more b bytes goes_on)) (sym (size-more b bytes goes_on))

first_of : (b : ℕ) (bytes : List ℕ) → lines_of (b ∷ bytes) ≡ first_line (b ∷ bytes) ∷ lines_of (behind_line (b ∷ bytes))
first_of b [] =
    elim (cases_Bool (b == 10)) [ inl ends ↦ first_of-lf b [] ends | inr goes_on ↦ first_of-more b [] goes_on refl ]
first_of b (c ∷ bytes) =
    elim (cases_Bool (b == 10)) [
      | inl ends ↦ first_of-lf b (c ∷ bytes) ends
      | inr goes_on ↦ first_of-more b (c ∷ bytes) goes_on (ap (with_byte b) (first_of c bytes))
    ]

-- a text is its first line and the lines behind it
pub lines_of-split : (bytes : List ℕ) → bytes ≢ [] → lines_of bytes ≡ first_line bytes ∷ lines_of (behind_line bytes)
lines_of-split [] some = absurd (some refl)
lines_of-split (b ∷ bytes) some = first_of b bytes

-- so it has one line more than what is behind its first line
pub lines_of-count : (bytes : List ℕ) → bytes ≢ [] → length (lines_of bytes) ≡ length (lines_of (behind_line bytes)) + 1
lines_of-count bytes some = let more = ap length (lines_of-split bytes some) in omega (arith, more)
