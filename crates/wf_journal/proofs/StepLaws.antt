-- What one step of the walk finds.
use Rattle.std.proofs.Common.{◌≡◌, ℕ, zero, suc, ◌+◌, ◌-◌, ◌≤◌, ◌<◌, Bool, true, false, ◌&&◌, ◌==◌, cond, List, [], ◌∷◌, length, take, drop, get_or, refl, sym, ◌∙◌, ap, subst, arith, rules, length-drop}
use Rattle.std.proofs.lemmas.List.{get_or-take, get_or-drop, drop-drop}
use Rattle.std.proofs.lemmas.Bool.{cond-true, cond-false}
use Rattle.std.specs.Int.{w32, from_be_bytes}
use Rattle.wf_journal.specs.declared.steps.Step.{Step}
use Rattle.wf_journal.specs.declared.steps.Step.TheVariants.{Closed, Broken, Next}
use Rattle.wf_journal.specs.Frames.{Frame, number_of, fits, frames_after, end_of, is_broken, IsAtRest}
use Rattle.wf_journal.specs.Journal.{IsPlace}
use Rattle.wf_journal.proofs.Ends.{end_after, breaks_after, fits-inside, end_from-walk, breaks_from-walk, end_of-walk, is_broken-walk}
use Rattle.wf_journal.specs.StepAt.{step_of, fits_in}

pub step_short : (at : ℕ) (xs : List ℕ) → get_or xs 0 0 ≡ 1 → length xs ≤ 5 → step_of at xs ≡ Broken
step_short at [] is short = absurd (omega (arith, is))
step_short at (g ∷ []) is short = ap (λ k. cond (k == 1) Broken Closed) is
step_short at (g ∷ a ∷ []) is short = ap (λ k. cond (k == 1) Broken Closed) is
step_short at (g ∷ a ∷ b ∷ []) is short = ap (λ k. cond (k == 1) Broken Closed) is
step_short at (g ∷ a ∷ b ∷ c ∷ []) is short = ap (λ k. cond (k == 1) Broken Closed) is
step_short at (g ∷ a ∷ b ∷ c ∷ d ∷ []) is short =
    ap (λ k. step_of at (k ∷ a ∷ b ∷ c ∷ d ∷ [])) is ∙ cond-false (fits (number_of a b c d) []) _ _ none
  where
    none : fits (number_of a b c d) [] ≡ false
    none = search rules
step_short at (g ∷ a ∷ b ∷ c ∷ d ∷ e ∷ rest) is short = absurd (omega arith)

module _ (at : ℕ) (n : ℕ) where
  abbrev number_at : List ℕ → ℕ
  number_at xs = number_of (get_or xs 1 0) (get_or xs 2 0) (get_or xs 3 0) (get_or xs 4 0)

  pub step_whole : (xs : List ℕ) → get_or xs 0 0 ≡ 1 → 5 < length xs → n ≡ number_at xs → fits_in n (length xs - 5) ≡ true → step_of at xs ≡ Next (at + 5 + n)
  step_whole [] is long num f = absurd (omega arith)
  step_whole (g ∷ []) is long num f = absurd (omega arith)
  step_whole (g ∷ a ∷ []) is long num f = absurd (omega arith)
  step_whole (g ∷ a ∷ b ∷ []) is long num f = absurd (omega arith)
  step_whole (g ∷ a ∷ b ∷ c ∷ []) is long num f = absurd (omega arith)
  step_whole (g ∷ a ∷ b ∷ c ∷ d ∷ rest) is long num f =
      let space : length (g ∷ a ∷ b ∷ c ∷ d ∷ rest) - 5 ≡ length rest = omega arith in
      ap (λ k. step_of at (k ∷ a ∷ b ∷ c ∷ d ∷ rest)) is ∙ cond-true (fits (number_of a b c d) rest) _ _ (ap (λ k. fits_in k (length rest)) (sym num) ∙ ap (fits_in n) (sym space) ∙ f)
      ∙ ap (λ k. Next (at + 5 + k)) (sym num)

  pub step_broken : (xs : List ℕ) → get_or xs 0 0 ≡ 1 → 5 < length xs → n ≡ number_at xs → fits_in n (length xs - 5) ≡ false → step_of at xs ≡ Broken
  step_broken [] is long num f = absurd (omega arith)
  step_broken (g ∷ []) is long num f = absurd (omega arith)
  step_broken (g ∷ a ∷ []) is long num f = absurd (omega arith)
  step_broken (g ∷ a ∷ b ∷ []) is long num f = absurd (omega arith)
  step_broken (g ∷ a ∷ b ∷ c ∷ []) is long num f = absurd (omega arith)
  step_broken (g ∷ a ∷ b ∷ c ∷ d ∷ rest) is long num f =
      let space : length (g ∷ a ∷ b ∷ c ∷ d ∷ rest) - 5 ≡ length rest = omega arith in
      ap (λ k. step_of at (k ∷ a ∷ b ∷ c ∷ d ∷ rest)) is ∙ cond-false (fits (number_of a b c d) rest) _ _ (ap (λ k. fits_in k (length rest)) (sym num) ∙ ap (fits_in n) (sym space) ∙ f)

-- the field of a length, read behind the gate
pub field_read : (file bytes : List ℕ) (at : ℕ) → bytes ≡ take 4 (drop (at + 1) file) → from_be_bytes w32 bytes
    ≡ number_of (get_or (drop at file) 1 0) (get_or (drop at file) 2 0) (get_or (drop at file) 3 0) (get_or (drop at file) 4 0)
field_read file bytes at is = ap (from_be_bytes w32) is ∙ search (rules, read)
  where
    read : (i : ℕ) → i < 4 → get_or (take 4 (drop (at + 1) file)) i 0 ≡ get_or (drop at file) (i + 1) 0
    read i lt = get_or-take 4 (drop (at + 1) file) i 0 lt ∙ get_or-drop (at + 1) file i 0 ∙ ap (λ k. get_or file k 0) (omega arith) ∙ sym (get_or-drop at file (i + 1) 0)

pub gate_read : (xs bytes : List ℕ) → bytes ≡ take 1 xs → get_or bytes 0 0 ≡ 1 → get_or xs 0 0 ≡ 1
gate_read xs bytes is one = sym (get_or-take 1 xs 0 0 (omega arith)) ∙ ap (λ l. get_or l 0 0) (sym is) ∙ one

-- THE WALK so far: what is left of the file ends as the file does
pub record Walked (file : List ℕ) (at : ℕ) : Type 0 where
  pub end : end_of file ≡ at + end_after 0 (drop at file)
  pub breaks : is_broken file ≡ breaks_after 0 (drop at file)

pub walked_first : (file : List ℕ) → Walked file 0
walked_first file = record { end = end_of-walk file ∙ omega arith; breaks = is_broken-walk file }

end-drop : (n : ℕ) (xs : List ℕ) → n ≤ length xs → end_after n xs ≡ n + end_after 0 (drop n xs)
end-drop zero xs le = omega arith
end-drop (suc n) [] le = absurd (omega arith)
end-drop (suc n) (x ∷ xs) le = ap suc (end-drop n xs (omega arith)) ∙ omega arith

breaks-drop : (n : ℕ) (xs : List ℕ) → n ≤ length xs → breaks_after n xs ≡ breaks_after 0 (drop n xs)
breaks-drop zero xs le = refl
breaks-drop (suc n) [] le = absurd (omega arith)
breaks-drop (suc n) (x ∷ xs) le = breaks-drop n xs (omega arith)

-- what a step says of the rest
abbrev pub Stepped : ℕ → List ℕ → Step → Type 0
Stepped at xs Closed = (end_after 0 xs ≡ 0) × (breaks_after 0 xs ≡ false)
Stepped at xs Broken = (end_after 0 xs ≡ 0) × (breaks_after 0 xs ≡ true)
Stepped at xs (Next next) = (n : ℕ) × (next ≡ at + n) × (n ≤ length xs) × (end_after 0 xs ≡ n + end_after 0 (drop n xs)) × (breaks_after 0 xs ≡ breaks_after 0 (drop n xs))

stepped_by : (at g : ℕ) (o : Bool) (rest : List ℕ) → (g == 1) ≡ o → end_after 0 (g ∷ rest) ≡ 0 → breaks_after 0 (g ∷ rest) ≡ o → Stepped at (g ∷ rest) (cond o Broken Closed)
stepped_by at g true rest is end breaks = (end, breaks)
stepped_by at g false rest is end breaks = (end, breaks)

pub stepped : (at : ℕ) (xs : List ℕ) → 0 < length xs → Stepped at xs (step_of at xs)
stepped at [] some = absurd (omega arith)
stepped at (g ∷ []) some = stepped_by at g (g == 1) [] refl refl refl
stepped at (g ∷ a ∷ []) some = stepped_by at g (g == 1) (a ∷ []) refl refl refl
stepped at (g ∷ a ∷ b ∷ []) some = stepped_by at g (g == 1) (a ∷ b ∷ []) refl refl refl
stepped at (g ∷ a ∷ b ∷ c ∷ []) some = stepped_by at g (g == 1) (a ∷ b ∷ c ∷ []) refl refl refl
stepped at (g ∷ a ∷ b ∷ c ∷ d ∷ rest) some = go (g == 1) refl (fits (number_of a b c d) rest) refl
  where
    whole : (g == 1) ≡ true → fits (number_of a b c d) rest ≡ true → ((g == 1) && fits (number_of a b c d) rest) ≡ true
    whole is fit = ap (λ t. t && fits (number_of a b c d) rest) is ∙ fit

    go : (o : Bool) → (g == 1) ≡ o → (f : Bool) → fits (number_of a b c d) rest ≡ f → Stepped at (g ∷ a ∷ b ∷ c ∷ d ∷ rest) (cond o (cond f (Next (at + 5 + number_of a b c d)) Broken) Closed)
    go true is true fit =
        let n = number_of a b c d in
        let inside : n < length rest = fits-inside n rest fit in
        let le : n ≤ length rest = omega (arith, inside) in (
          suc (suc (suc (suc (suc n)))),
          omega arith,
          omega (arith, le),
          cond-true _ _ _ (whole is fit) ∙ omega (arith, end-drop n rest le),
          cond-true _ _ _ (whole is fit) ∙ breaks-drop n rest le,
        )
    go true is false fit = (cond-false _ _ _ (ap (λ t. t && fits (number_of a b c d) rest) is ∙ fit), cond-false _ _ _ (ap (λ t. t && fits (number_of a b c d) rest) is ∙ fit) ∙ is)
    go false is f fit = (cond-false _ _ _ (ap (λ t. t && fits (number_of a b c d) rest) is), cond-false _ _ _ (ap (λ t. t && fits (number_of a b c d) rest) is) ∙ is)

-- the walk stops at a closed gate
pub walked_rests : (file : List ℕ) (at : ℕ) (step : Step) → Walked file at → at < length file → step ≡ step_of at (drop at file) → step ≡ Closed → IsAtRest file at
walked_rests file at step so_far within is closed =
    let here : Stepped at (drop at file) Closed = subst (Stepped at (drop at file)) (sym is ∙ closed) (stepped at (drop at file) (omega (arith, within, length-drop at file))) in
    record { whole = so_far.breaks ∙ here.1; end = so_far.end ∙ omega (arith, here.0); within = within }

pub walked_breaks : (file : List ℕ) (at : ℕ) (step : Step) → Walked file at → at < length file → step ≡ step_of at (drop at file) → step ≡ Broken → (is_broken file ≡ true) × (end_of file ≡ at)
walked_breaks file at step so_far within is broken =
    let here : Stepped at (drop at file) Broken = subst (Stepped at (drop at file)) (sym is ∙ broken) (stepped at (drop at file) (omega (arith, within, length-drop at file))) in
    (so_far.breaks ∙ here.1, so_far.end ∙ omega (arith, here.0))

pub walked_next : (file : List ℕ) (at : ℕ) (step : Step) (next : ℕ) → Walked file at → at < length file → step ≡ step_of at (drop at file) → step ≡ Next next → Walked file next
walked_next file at step next so_far within is goes =
    let here : Stepped at (drop at file) (Next next) = subst (Stepped at (drop at file)) (sym is ∙ goes) (stepped at (drop at file) (omega (arith, within, length-drop at file))) in
    let n = here.0 in
    let same : drop n (drop at file) ≡ drop next file = drop-drop n at file ∙ ap (λ k. drop k file) (sym here.1) in
    record {
      end = so_far.end ∙ omega (arith, here.1, here.3, ap (end_after 0) same);
      breaks = so_far.breaks ∙ here.4 ∙ ap (breaks_after 0) same;
    }

-- a frame, as the walk sees it
abbrev frame : ℕ → List ℕ → Frame
frame at body = record { place = at; body = body }

frames-drop : (at n : ℕ) (xs : List ℕ) → n ≤ length xs → frames_after at n xs ≡ frames_after (at + n) 0 (drop n xs)
frames-drop at zero xs le = ap (λ k. frames_after k 0 xs) (omega arith)
frames-drop at (suc n) [] le = absurd (omega arith)
frames-drop at (suc n) (x ∷ xs) le = frames-drop (at + 1) n xs (omega arith) ∙ ap (λ k. frames_after k 0 (drop n xs)) (omega arith)

next_is : (at n next : ℕ) → Next (at + 5 + n) ≡ Next next → next ≡ at + 5 + n
next_is at n next is = sym (cc is)

pub step_frame : (at : ℕ) (xs : List ℕ) (next : ℕ) → step_of at xs ≡ Next next
    → frames_after at 0 xs ≡ record { place = at; body = take (next - at - 5) (drop 5 xs) } ∷ frames_after next 0 (drop (next - at) xs)
step_frame at [] next is = absurd (cc is)
step_frame at (g ∷ []) next is = absurd (not_next (g == 1) is)
  where
    not_next : (o : Bool) → cond o Broken Closed ≡ Next next → ⊥
    not_next true same = cc same
    not_next false same = cc same
step_frame at (g ∷ a ∷ []) next is = absurd (not_next (g == 1) is)
  where
    not_next : (o : Bool) → cond o Broken Closed ≡ Next next → ⊥
    not_next true same = cc same
    not_next false same = cc same
step_frame at (g ∷ a ∷ b ∷ []) next is = absurd (not_next (g == 1) is)
  where
    not_next : (o : Bool) → cond o Broken Closed ≡ Next next → ⊥
    not_next true same = cc same
    not_next false same = cc same
step_frame at (g ∷ a ∷ b ∷ c ∷ []) next is = absurd (not_next (g == 1) is)
  where
    not_next : (o : Bool) → cond o Broken Closed ≡ Next next → ⊥
    not_next true same = cc same
    not_next false same = cc same
step_frame at (g ∷ a ∷ b ∷ c ∷ d ∷ rest) next is = go (g == 1) refl (fits (number_of a b c d) rest) refl is
  where
    go : (o : Bool) → (g == 1) ≡ o → (f : Bool) → fits (number_of a b c d) rest ≡ f → cond o (cond f (Next (at + 5 + number_of a b c d)) Broken) Closed ≡ Next next
        → frames_after at 0 (g ∷ a ∷ b ∷ c ∷ d ∷ rest)
        ≡ record { place = at; body = take (next - at - 5) rest } ∷ frames_after next 0 (drop (next - at) (g ∷ a ∷ b ∷ c ∷ d ∷ rest))
    go true one true fit same =
        let n = number_of a b c d in
        let inside : n < length rest = fits-inside n rest fit in
        let le : n ≤ length rest = omega (arith, inside) in
        let far : next ≡ at + 5 + n = next_is at n next same in
        let len : n ≡ next - at - 5 = omega (arith, far) in
        let jump : suc (suc (suc (suc (suc n)))) ≡ next - at = omega (arith, far) in
        cond-true _ _ _ (ap (λ t. t && fits (number_of a b c d) rest) one ∙ fit) ∙ ap (λ k. frame at (take k rest) ∷ frames_after (at + 5) n rest) len
        ∙ ap (λ l. frame at (take (next - at - 5) rest) ∷ l)
        (frames-drop (at + 5) n rest le ∙ ap (λ k. frames_after k 0 (drop n rest)) (sym far) ∙ ap (λ k. frames_after next 0 (drop k (g ∷ a ∷ b ∷ c ∷ d ∷ rest))) jump)
    go true one false fit same = absurd (cc same)
    go false shut f fit same = absurd (cc same)

-- the next place, and the body before it
pub place_next : (file : List ℕ) (at next : ℕ) → IsPlace file at → step_of at (drop at file) ≡ Next next → next < length file → IsPlace file next
place_next file at next place is within =
    let here : Stepped at (drop at file) (Next next) = subst (Stepped at (drop at file)) is (stepped at (drop at file) (omega (arith, place.within, length-drop at file))) in
    let n = here.0 in
    let same : drop n (drop at file) ≡ drop next file = drop-drop n at file ∙ ap (λ k. drop k file) (sym here.1) in
    record {
      end = place.end ∙ omega (arith, end_from-walk file at, end_from-walk file next, here.1, here.3, ap (end_after 0) same);
      whole = breaks_from-walk file next ∙ ap (breaks_after 0) (sym same) ∙ sym here.4 ∙ sym (breaks_from-walk file at) ∙ place.whole;
      within = within;
    }

pub frame_here : (file bytes : List ℕ) (at next len : ℕ) → step_of at (drop at file) ≡ Next next → at + 5 < next → len ≡ next - at - 5 → bytes ≡ take len (drop (at + 5) file)
    → frames_after at 0 (drop at file) ≡ record { place = at; body = bytes } ∷ frames_after next 0 (drop next file)
frame_here file bytes at next len is far size read =
    let jump : at + (next - at) ≡ next = omega (arith, far) in
    let body : take (next - at - 5) (drop 5 (drop at file)) ≡ bytes = ap (take (next - at - 5)) (drop-drop 5 at file) ∙ ap (λ k. take k (drop (at + 5) file)) (sym size) ∙ sym read in
    step_frame at (drop at file) next is ∙ ap (λ l. frame at l ∷ frames_after next 0 (drop (next - at) (drop at file))) body
    ∙ ap (λ l. frame at bytes ∷ frames_after next 0 l) (drop-drop (next - at) at file ∙ ap (λ k. drop k file) jump)
