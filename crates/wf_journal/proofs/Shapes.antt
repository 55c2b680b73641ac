-- What a journal's file is before, between and after the strokes of an append.
use Rattle.std.proofs.Common.{◌≡◌, inl, inr, ℕ, suc, ◌+◌, ◌≤◌, ◌<◌, true, false, ◌==◌, List, [], ◌∷◌, ◌++◌, length, take, get_or, refl, sym, ◌∙◌, ap, subst, arith, length-append, length-take-le, rules}
use Rattle.std.proofs.lemmas.List.{take_at, append-nil}
use Rattle.std.proofs.lemmas.Bool.{cond-true}
use Rattle.std.proofs.lemmas.Nat.{from_be_bytes-to_be_bytes_4}
use Rattle.std.specs.Int.{w32, to_be_bytes, from_be_bytes}
use Rattle.wf_model.specs.Limits.{max_body}
use Rattle.wf_journal.specs.Frames.{packed, fits, bodies_of, end_of, is_broken, IsAtRest, IsAsBefore, IsBeforeOrAfter}
use Rattle.wf_journal.proofs.Ends.{end_after, breaks_after, end_of-walk, is_broken-walk, rests-end, rests-whole}
use Rattle.wf_journal.proofs.Walks.{bodies_after, bodies_of-walk}
use Rattle.wf_journal.proofs.Cuts.{Cut, cut, bodies-closed, end-closed, breaks-closed}

bodies-skip : (xs ys : List ℕ) → bodies_after (length xs) (xs ++ ys) ≡ bodies_after 0 ys
bodies-skip [] ys = refl
bodies-skip (x ∷ xs) ys = bodies-skip xs ys

end-skip : (xs ys : List ℕ) → end_after (length xs) (xs ++ ys) ≡ length xs + end_after 0 ys
end-skip [] ys = omega arith
end-skip (x ∷ xs) ys = ap suc (end-skip xs ys) ∙ omega arith

breaks-skip : (xs ys : List ℕ) → breaks_after (length xs) (xs ++ ys) ≡ breaks_after 0 ys
breaks-skip [] ys = refl
breaks-skip (x ∷ xs) ys = breaks-skip xs ys

-- an open frame in front
module _ (body : List ℕ) (some : 1 ≤ length body) (most : length body ≤ max_body) (rest : List ℕ) (more : 0 < length rest) where
  abbrev n : ℕ
  n = from_be_bytes w32 (to_be_bytes w32 (length body))

  is_n : n ≡ length body
  is_n = from_be_bytes-to_be_bytes_4 (length body) (omega (arith, most))

  fits_here : fits (length body) (body ++ rest) ≡ true
  fits_here =
      let inside : length body < length (body ++ rest) = omega (arith, length-append body rest, more) in
      search (rules, some, most, inside)

  fits_n : fits n (body ++ rest) ≡ true
  fits_n = ap (λ k. fits k (body ++ rest)) is_n ∙ fits_here

  pub bodies-front : bodies_after 0 (1 ∷ (packed body ++ rest)) ≡ body ∷ bodies_after 0 rest
  bodies-front =
      cond-true _ _ _ fits_n ∙ ap (λ k. take k (body ++ rest) ∷ bodies_after k (body ++ rest)) is_n
      ∙ ap (λ l. l ∷ bodies_after (length body) (body ++ rest)) (take_at body rest (length body) refl)
      ∙ ap (λ l. body ∷ l) (bodies-skip body rest)

  pub end-front : end_after 0 (1 ∷ (packed body ++ rest)) ≡ 5 + length body + end_after 0 rest
  end-front = cond-true _ _ _ fits_n ∙ ap (λ k. suc (suc (suc (suc (suc (end_after k (body ++ rest))))))) is_n ∙ omega (arith, end-skip body rest)

  pub breaks-front : breaks_after 0 (1 ∷ (packed body ++ rest)) ≡ breaks_after 0 rest
  breaks-front = cond-true _ _ _ fits_n ∙ ap (λ k. breaks_after k (body ++ rest)) is_n ∙ breaks-skip body rest

-- one open frame and a closed gate
module _ (body : List ℕ) (some : 1 ≤ length body) (most : length body ≤ max_body) (more : List ℕ) where
  bodies-one : bodies_after 0 (1 ∷ (packed body ++ 0 ∷ more)) ≡ body ∷ []
  bodies-one = bodies-front body some most (0 ∷ more) (omega arith) ∙ ap (λ l. body ∷ l) (bodies-closed 0 more refl)

  end-one : end_after 0 (1 ∷ (packed body ++ 0 ∷ more)) ≡ 5 + length body
  end-one = end-front body some most (0 ∷ more) (omega arith) ∙ omega (arith, end-closed 0 more refl)

  breaks-one : breaks_after 0 (1 ∷ (packed body ++ 0 ∷ more)) ≡ false
  breaks-one = breaks-front body some most (0 ∷ more) (omega arith) ∙ breaks-closed 0 more refl

-- THE FILE AT REST
module _ (file : List ℕ) (place : ℕ) (rests : IsAtRest file place) where
  abbrev front : List ℕ
  front = take place file

  abbrev pub gate : ℕ
  gate = get_or file place 1

  ends : end_after 0 file ≡ place
  ends = rests-end file place rests

  cut_here : (g : ℕ) (tail : List ℕ) → Cut 0 file g tail
  cut_here g tail = cut 0 file g tail (rests-whole file place rests) (omega (arith, ends, rests.within))

  cut_bodies : (g : ℕ) (tail : List ℕ) → bodies_of (front ++ g ∷ tail) ≡ bodies_of file ++ bodies_after 0 (g ∷ tail)
  cut_bodies g tail =
      bodies_of-walk (front ++ g ∷ tail) ∙ subst (λ k. bodies_after 0 (take k file ++ g ∷ tail) ≡ bodies_after 0 file ++ bodies_after 0 (g ∷ tail)) ends (cut_here g tail).bodies
      ∙ ap (λ l. l ++ bodies_after 0 (g ∷ tail)) (sym (bodies_of-walk file))

  cut_end : (g : ℕ) (tail : List ℕ) → end_of (front ++ g ∷ tail) ≡ place + end_after 0 (g ∷ tail)
  cut_end g tail = end_of-walk (front ++ g ∷ tail) ∙ subst (λ k. end_after 0 (take k file ++ g ∷ tail) ≡ k + end_after 0 (g ∷ tail)) ends (cut_here g tail).end

  cut_breaks : (g : ℕ) (tail : List ℕ) → is_broken (front ++ g ∷ tail) ≡ breaks_after 0 (g ∷ tail)
  cut_breaks g tail = is_broken-walk (front ++ g ∷ tail) ∙ subst (λ k. breaks_after 0 (take k file ++ g ∷ tail) ≡ breaks_after 0 (g ∷ tail)) ends (cut_here g tail).breaks

  pub shut : (gate == 1) ≡ false
  shut = subst (λ k. (get_or file k 1 == 1) ≡ false) ends (cut_here 0 []).shut

  length-front : length front ≡ place
  length-front = length-take-le place file (omega (arith, rests.within))

  length-cut : (g : ℕ) (tail : List ℕ) → place < length (front ++ g ∷ tail)
  length-cut g tail = omega (arith, length-append front (g ∷ tail), length-front)

  -- behind a closed gate there may be anything
  pub closed_rests : (g : ℕ) (tail : List ℕ) → (g == 1) ≡ false → IsAtRest (front ++ g ∷ tail) place
  closed_rests g tail is = record {
    whole = cut_breaks g tail ∙ breaks-closed g tail is;
    end = cut_end g tail ∙ omega (arith, end-closed g tail is);
    within = length-cut g tail;
  }

  pub closed_bodies : (g : ℕ) (tail : List ℕ) → (g == 1) ≡ false → bodies_of (front ++ g ∷ tail) ≡ bodies_of file
  closed_bodies g tail is = cut_bodies g tail ∙ ap (λ l. bodies_of file ++ l) (bodies-closed g tail is) ∙ append-nil (bodies_of file)

  pub closed_as_before : (g : ℕ) (tail : List ℕ) → (g == 1) ≡ false → IsAsBefore (bodies_of file) (front ++ g ∷ tail)
  closed_as_before g tail is = record { bodies = closed_bodies g tail is; whole = let rest = closed_rests g tail is in rest.whole }

  -- a frame behind an open gate
  module _ (body : List ℕ) (some : 1 ≤ length body) (most : length body ≤ max_body) (more : List ℕ) where
    pub open_rests : IsAtRest (front ++ 1 ∷ (packed body ++ 0 ∷ more)) (place + (5 + length body))
    open_rests = record {
      whole = cut_breaks 1 (packed body ++ 0 ∷ more) ∙ breaks-one body some most more;
      end = cut_end 1 (packed body ++ 0 ∷ more) ∙ ap (λ k. place + k) (end-one body some most more);
      within = omega (arith, length-front, length-append front (1 ∷ (packed body ++ 0 ∷ more)), length-append body (0 ∷ more));
    }

    pub open_bodies : bodies_of (front ++ 1 ∷ (packed body ++ 0 ∷ more)) ≡ bodies_of file ++ body ∷ []
    open_bodies = cut_bodies 1 (packed body ++ 0 ∷ more) ∙ ap (λ l. bodies_of file ++ l) (bodies-one body some most more)

    pub open_after : IsBeforeOrAfter (bodies_of file) body (front ++ 1 ∷ (packed body ++ 0 ∷ more))
    open_after = record { bodies = inr open_bodies; whole = let rest = open_rests in rest.whole }

-- what is as before is before an append or after it
pub still_before : (old : List (List ℕ)) (body file : List ℕ) → IsAsBefore old file → IsBeforeOrAfter old body file
still_before old body file same = record { bodies = inl same.bodies; whole = same.whole }
