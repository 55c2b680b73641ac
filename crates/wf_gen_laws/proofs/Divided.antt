-- A text of lines, a divider, and what stands behind it.
use Rattle.std.proofs.Common.{◌≡◌, ℕ, ◌==◌, Bool, true, false, not, ◌&&◌, cond, List, [], ◌∷◌, ◌++◌, refl, sym, ap, ◌∙◌, true≢false}
use Rattle.std.proofs.lemmas.Bool.{and_parts, eqb-true, not-true}
use lib.Chars.{codes}
use Rattle.wf_print.specs.Lined.{is_printable, are_lines}
use Rattle.wf_scripts.proofs.Divided.{first_line-more}
use Rattle.wf_scripts.specs.Lines.{first_line, is_divider, behind_line, before_divider, behind_divider}

-- the line of the divider
abbrev pub divider : List ℕ
divider = codes "---\n"

-- a printable byte ends no line
no_end : (b : ℕ) → is_printable b ≡ true → (b == 10) ≡ false
no_end b printable = go (b == 10) refl
  where
    go : (t : Bool) → (b == 10) ≡ t → t ≡ false
    go true e = absurd (true≢false (sym printable ∙ ap is_printable (eqb-true b 10 e)))
    go false e = refl

-- a line that begins with another byte is no divider
is_other : (b : ℕ) (more : List ℕ) → (b == 10) ≡ false → (b == 45) ≡ false → is_divider (first_line (b ∷ more)) ≡ false
is_other b more inside other = ap is_divider (first_line-more b more inside) ∙ rw other refl

-- the first byte of a text of lines begins no divider and ends no line, whatever stands behind it
record BeginsLine (b : ℕ) (bs more : List ℕ) : Type 0 where
  no_divider : is_divider (first_line (b ∷ more)) ≡ false
  inside : (b == 10) ≡ false
  lined : are_lines false bs ≡ true

begins_line : (b : ℕ) (bs more : List ℕ) → are_lines true (b ∷ bs) ≡ true → BeginsLine b bs more
begins_line b bs more lined =
    let parts = and_parts (is_printable b && not (b == 45)) (are_lines false bs) lined in
    let first = and_parts (is_printable b) (not (b == 45)) (parts.0) in
    let inside : (b == 10) ≡ false = no_end b first.0 in
    record { no_divider = is_other b more inside (not-true (b == 45) first.1); inside = inside; lined = parts.1 }

-- inside a line, a line begins behind its LF and nowhere else
goes_on : (b : ℕ) (bs : List ℕ) → are_lines false (b ∷ bs) ≡ true → are_lines (b == 10) bs ≡ true
goes_on b bs lined = go (b == 10) lined
  where
    go : (t : Bool) → cond t (are_lines true bs) (is_printable b && are_lines false bs) ≡ true → are_lines t bs ≡ true
    go true l = l
    go false l = (and_parts (is_printable b) (are_lines false bs) l).1

-- what stands before the divider
pub before : (begins : Bool) (text rest : List ℕ) → are_lines begins text ≡ true → before_divider begins (text ++ (divider ++ rest)) ≡ text
before true [] rest lined = refl
before false [] rest lined = absurd (true≢false (sym lined))
before true (b ∷ bs) rest lined =
    let more = bs ++ (divider ++ rest) in
    let first = begins_line b bs more lined in
    ap (λ (t : Bool). cond t [] (b ∷ before_divider (b == 10) more)) first.no_divider
    ∙ ap (λ (t : Bool). b ∷ before_divider t more) first.inside
    ∙ ap (λ (xs : List ℕ). b ∷ xs) (before false bs rest first.lined)
before false (b ∷ bs) rest lined = ap (λ (xs : List ℕ). b ∷ xs) (before (b == 10) bs rest (goes_on b bs lined))

-- and behind it
pub behind : (begins : Bool) (text rest : List ℕ) → are_lines begins text ≡ true → behind_divider begins (text ++ (divider ++ rest)) ≡ rest
behind true [] rest lined = refl
behind false [] rest lined = absurd (true≢false (sym lined))
behind true (b ∷ bs) rest lined =
    let more = bs ++ (divider ++ rest) in
    let first = begins_line b bs more lined in
    ap (λ (t : Bool). cond t (behind_line (b ∷ more)) (behind_divider (b == 10) more)) first.no_divider
    ∙ ap (λ (t : Bool). behind_divider t more) first.inside
    ∙ behind false bs rest first.lined
behind false (b ∷ bs) rest lined = behind (b == 10) bs rest (goes_on b bs lined)
