-- Where the frames of a file end, and whether an open gate stands there, counted byte by byte.
use Rattle.std.proofs.Common.{◌≡◌, ℕ, zero, suc, ◌+◌, ◌≤◌, ◌<◌, Bool, true, false, ◌&&◌, ◌==◌, if◌then◌else◌, nat_le, List, [], ◌∷◌, length, take, drop, get_or, refl, sym, ◌∙◌, ap, arith, rules, length-take-le}
use Rattle.std.proofs.lemmas.List.{get_or-drop}
use Rattle.std.proofs.lemmas.Bool.{and_parts}
use Rattle.wf_model.specs.Limits.{max_body}
use Rattle.wf_journal.specs.Frames.{open_gate, header, number_of, fits, frames_after, frames_at, end_behind, end_of, is_broken, end_from, breaks_from, IsAtRest}

-- how many bytes stand in front of the end
abbrev pub end_after : ℕ → List ℕ → ℕ
end_after (suc skip) (byte ∷ file) = suc (end_after skip file)
end_after zero (gate ∷ a ∷ b ∷ c ∷ d ∷ rest) =
    if (gate == open_gate) && fits (number_of a b c d) rest then suc (suc (suc (suc (suc (end_after (number_of a b c d) rest))))) else 0
end_after skip file = 0

-- whether an open gate stands there
abbrev pub breaks_after : ℕ → List ℕ → Bool
breaks_after (suc skip) (byte ∷ file) = breaks_after skip file
breaks_after zero (gate ∷ a ∷ b ∷ c ∷ d ∷ rest) = if (gate == open_gate) && fits (number_of a b c d) rest then breaks_after (number_of a b c d) rest else gate == open_gate
breaks_after zero (gate ∷ rest) = gate == open_gate
breaks_after skip file = false

pub fits-inside : (n : ℕ) (rest : List ℕ) → fits n rest ≡ true → n < length rest
fits-inside n rest is = let more = (and_parts (nat_le 1 n) _ is).1 in let test = (and_parts (nat_le n max_body) _ more).1 in search (rules, test)

-- it is the place behind the last frame
end-frames : (at skip : ℕ) (file : List ℕ) → skip ≤ length file → end_behind (at + skip) (frames_after at skip file) ≡ at + end_after skip file
end-frames at (suc skip) [] le = absurd (omega arith)
end-frames at (suc skip) (byte ∷ file) le =
    let same : at + suc skip ≡ at + 1 + skip = omega arith in
    ap (λ k. end_behind k (frames_after (at + 1) skip file)) same ∙ end-frames (at + 1) skip file (omega arith) ∙ omega arith
end-frames at zero [] le = refl
end-frames at zero (gate ∷ []) le = refl
end-frames at zero (gate ∷ a ∷ []) le = refl
end-frames at zero (gate ∷ a ∷ b ∷ []) le = refl
end-frames at zero (gate ∷ a ∷ b ∷ c ∷ []) le = refl
end-frames at zero (gate ∷ a ∷ b ∷ c ∷ d ∷ rest) le = go (gate == open_gate) (fits (number_of a b c d) rest) refl (λ l. end-frames (at + header) (number_of a b c d) rest l)
  where
    go : (o f : Bool) → fits (number_of a b c d) rest ≡ f
        → (number_of a b c d ≤ length rest → end_behind (at + header + number_of a b c d) (frames_after (at + header) (number_of a b c d) rest) ≡ at + header + end_after (number_of a b c d) rest)
        → end_behind (at + 0) (if o && f then record { place = at; body = take (number_of a b c d) rest } ∷ frames_after (at + header) (number_of a b c d) rest else [])
        ≡ at + (if o && f then suc (suc (suc (suc (suc (end_after (number_of a b c d) rest))))) else 0)
    go true true fit more =
        let inside : number_of a b c d < length rest = fits-inside (number_of a b c d) rest fit in
        let long : length (take (number_of a b c d) rest) ≡ number_of a b c d = length-take-le (number_of a b c d) rest (omega (arith, inside)) in
        ap (λ k. end_behind (at + header + k) (frames_after (at + header) (number_of a b c d) rest)) long ∙ more (omega (arith, inside)) ∙ omega arith
    go true false fit more = refl
    go false f fit more = refl

-- what stands behind them is an open gate
breaks-open : (skip : ℕ) (file : List ℕ) → breaks_after skip file ≡ (get_or file (end_after skip file) 0 == 1)
breaks-open (suc skip) [] = refl
breaks-open (suc skip) (byte ∷ file) = breaks-open skip file
breaks-open zero [] = refl
breaks-open zero (gate ∷ []) = refl
breaks-open zero (gate ∷ a ∷ []) = refl
breaks-open zero (gate ∷ a ∷ b ∷ []) = refl
breaks-open zero (gate ∷ a ∷ b ∷ c ∷ []) = refl
breaks-open zero (gate ∷ a ∷ b ∷ c ∷ d ∷ rest) = go ((gate == open_gate) && fits (number_of a b c d) rest) (breaks-open (number_of a b c d) rest)
  where
    go : (whole : Bool) → breaks_after (number_of a b c d) rest ≡ (get_or rest (end_after (number_of a b c d) rest) 0 == 1)
        → (if whole then breaks_after (number_of a b c d) rest else gate == open_gate)
        ≡ (get_or (gate ∷ a ∷ b ∷ c ∷ d ∷ rest) (if whole then suc (suc (suc (suc (suc (end_after (number_of a b c d) rest))))) else 0) 0 == 1)
    go true more = more
    go false more = refl

-- of a file from a place on
pub end_from-walk : (file : List ℕ) (place : ℕ) → end_from file place ≡ place + end_after 0 (drop place file)
end_from-walk file place =
    let same : place ≡ place + 0 = omega arith in
    ap (λ k. end_behind k (frames_after place 0 (drop place file))) same ∙ end-frames place 0 (drop place file) (omega arith)

pub breaks_from-walk : (file : List ℕ) (place : ℕ) → breaks_from file place ≡ breaks_after 0 (drop place file)
breaks_from-walk file place =
    ap (λ k. get_or file k 0 == 1) (end_from-walk file place)
    ∙ ap (λ k. k == 1) (sym (get_or-drop place file (end_after 0 (drop place file)) 0))
    ∙ sym (breaks-open 0 (drop place file))

-- of a whole file
pub end_of-walk : (file : List ℕ) → end_of file ≡ end_after 0 file
unfolding end_of frames_at
end_of-walk file = end_from-walk file 0 ∙ omega arith

pub is_broken-walk : (file : List ℕ) → is_broken file ≡ breaks_after 0 file
unfolding is_broken end_of frames_at
is_broken-walk file = breaks_from-walk file 0

-- of a file at rest
pub rests-end : (file : List ℕ) (place : ℕ) → IsAtRest file place → end_after 0 file ≡ place
rests-end file place rests = sym (end_of-walk file) ∙ rests.end

pub rests-whole : (file : List ℕ) (place : ℕ) → IsAtRest file place → breaks_after 0 file ≡ false
rests-whole file place rests = sym (is_broken-walk file) ∙ rests.whole
