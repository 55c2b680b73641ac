-- An answer other than that the bytes are too few is final, and comes at the first place where it can.
use Rattle.std.proofs.Common.{◌≡◌, ◌≢◌, ℕ, zero, suc, ◌+◌, ◌-◌, ◌<◌, ◌≤◌, ◌⊎◌, inl, inr, Bool, true, false, cond, eqb, List, [], ◌∷◌, ◌++◌, length, take, drop, None, Result, Ok, Err, refl, sym, ap, subst, ◌∙◌, arith}
use Rattle.std.proofs.lemmas.Bool.{cases_lt}
use Rattle.std.proofs.lemmas.List.{length-append, length-take, length-take-le, take-append-drop, take_all}
use Rattle.wf_model.specs.declared.update.Update.{Update}
use Rattle.wf_codec.specs.declared.fault.Misfit.{Misfit}
use Rattle.wf_codec.specs.declared.fault.Misfit.TheVariants.{Short, Bad}
use Rattle.wf_codec.specs.declared.fault.CodecFault.{CodecFault}
use Rattle.wf_codec.specs.declared.fault.CodecFault.TheVariants as codec
use Rattle.wf_codec.specs.Tags.{update_tag}
use Rattle.wf_codec.specs.Ranges.{chart_numbers}
use Rattle.wf_codec.specs.Fields.{update_at, told, decoded}
use Rattle.wf_codec.specs.Finality.{AnswerIsFinal, FaultIsFirst, FrontIsShort, FaultComesAtOnce}
use Rattle.wf_codec.proofs.GoingFields.{goes_update}

abbrev Answer : Type 0
Answer = Result (Update × ℕ) CodecFault

abbrev read_whole : Update → ℕ → Answer
read_whole u n = Ok (u, n)

abbrev bad_at : ℕ → Answer
bad_at at = Err (codec.BadField at)

-- the update at the front of the bytes, and what is told of it
abbrev first_update : List ℕ → Result (Update × List ℕ) Misfit
first_update bytes = update_at chart_numbers None bytes

abbrev told_of : List ℕ → Answer
told_of bytes = told (length bytes) (first_update bytes)

-- what is told stays with more bytes
told_more : (bytes more : List ℕ) (r : Result (Update × List ℕ) Misfit) → first_update bytes ≡ r → told (length bytes) r ≢ Err codec.Short → told_of (bytes ++ more) ≡ told (length bytes) r
told_more bytes more (Ok x) e final =
    let len : length (bytes ++ more) - length (x.1 ++ more) ≡ length bytes - length x.1 = omega (arith, length-append bytes more, length-append x.1 more) in
    rw ((goes_update chart_numbers None).stays bytes more x e) (ap (read_whole x.0) len)
told_more bytes more (Err Short) e final = absurd (final refl)
told_more bytes more (Err (Bad left)) e final =
    let len : length (bytes ++ more) - (left + length more) ≡ length bytes - left = omega (arith, length-append bytes more) in
    rw ((goes_update chart_numbers None).bad_stays bytes more left e) (ap bad_at len)

picked_more : (b : Bool) (longer shorter other : Answer) → (shorter ≢ Err codec.Short → longer ≡ shorter) → cond b shorter other ≢ Err codec.Short → cond b longer other ≡ cond b shorter other
picked_more true longer shorter other same final = same final
picked_more false longer shorter other same final = refl

pub answer_final : AnswerIsFinal
unfolding decoded
answer_final [] more e = absurd (e refl)
answer_final (tag ∷ rest) more e =
    picked_more (eqb tag update_tag) (told_of (tag ∷ (rest ++ more))) (told_of (tag ∷ rest)) (Err codec.BadTag) (told_more (tag ∷ rest) more (first_update (tag ∷ rest)) refl) e

picked : (b : Bool) (r x : Answer) → x ≢ Err codec.BadTag → cond b r (Err codec.BadTag) ≡ x → r ≡ x
picked true r x other e = e
picked false r x other e = absurd (other (sym e))

-- an answer that isn't on the tag is what is told
answer_told : (tag : ℕ) (rest : List ℕ) (x : Answer) → x ≢ Err codec.BadTag → decoded (tag ∷ rest) ≡ x → told_of (tag ∷ rest) ≡ x
unfolding decoded
answer_told tag rest x other e = picked (eqb tag update_tag) (told_of (tag ∷ rest)) x other e

-- ---- front parts

is_short : (r : Answer) → (r ≡ Err codec.Short) ⊎ (r ≢ Err codec.Short)
is_short (Ok x) = inr (λ e. absurd cc)
is_short (Err codec.Short) = inl refl
is_short (Err codec.BadTag) = inr (λ e. absurd cc)
is_short (Err (codec.BadField at)) = inr (λ e. absurd cc)
is_short (Err codec.NoMemory) = inr (λ e. absurd cc)

-- a front part is too short, or has the answer of all
front_answers : (bytes : List ℕ) (m : ℕ) → (decoded (take m bytes) ≡ Err codec.Short) ⊎ (decoded (take m bytes) ≡ decoded bytes)
front_answers bytes m =
    elim (is_short (decoded (take m bytes))) [
      | inl short ↦ inl short
      | inr other ↦ inr (sym (answer_final (take m bytes) (drop m bytes) other) ∙ ap decoded (take-append-drop m bytes))
    ]

-- an update's bytes are some of those that there are
told_within : (len : ℕ) (r : Result (Update × List ℕ) Misfit) (u : Update) (n : ℕ) → told len r ≡ Ok (u, n) → n ≤ len
told_within len (Ok x) u n e =
    let pair : ◌≡◌ {A = Update × ℕ} (x.0, len - length x.1) (u, n) = cc in
    let same : len - length x.1 ≡ n = ap (λ (y : Update × ℕ). y.1) pair in
    omega arith
told_within len (Err Short) u n e = absurd cc
told_within len (Err (Bad left)) u n e = absurd cc

update_within : (bytes : List ℕ) (u : Update) (n : ℕ) → decoded bytes ≡ Ok (u, n) → n ≤ length bytes
unfolding decoded
update_within [] u n e = absurd cc
update_within (tag ∷ rest) u n e = told_within (length (tag ∷ rest)) (first_update (tag ∷ rest)) u n (answer_told tag rest (Ok (u, n)) (λ h. absurd cc) e)

-- a bad field begins before the end
told_before_end : (bytes : List ℕ) (r : Result (Update × List ℕ) Misfit) (at : ℕ) → 1 ≤ length bytes → first_update bytes ≡ r → told (length bytes) r ≡ Err (codec.BadField at) → at < length bytes
told_before_end bytes (Ok x) at some was e = absurd cc
told_before_end bytes (Err Short) at some was e = absurd cc
told_before_end bytes (Err (Bad left)) at some was e =
    let same : length bytes - left ≡ at = cc in
    let there : 1 ≤ left = (goes_update chart_numbers None).bad_is_there bytes left was in
    omega arith

fault_before_end : (bytes : List ℕ) (at : ℕ) → decoded bytes ≡ Err (codec.BadField at) → at < length bytes
unfolding decoded
fault_before_end [] at e = absurd cc
fault_before_end (tag ∷ rest) at e = told_before_end (tag ∷ rest) (first_update (tag ∷ rest)) at (omega arith) refl (answer_told tag rest (Err (codec.BadField at)) (λ h. absurd cc) e)

pub front_short : FrontIsShort
front_short bytes u n m e lt =
    elim (front_answers bytes m) [
      | inl short ↦ short
      | inr same ↦ absurd (omega (arith, update_within (take m bytes) u n (same ∙ e), length-take m bytes))
    ]

pub fault_first : FaultIsFirst
fault_first bytes at e = (
  fault_before_end bytes at e,
  λ m le.
      elim (front_answers bytes m) [
        | inl short ↦ short
        | inr same ↦ absurd (omega (arith, fault_before_end (take m bytes) at (same ∙ e), length-take m bytes))
      ],
)

-- ---- a bad field comes at once

tag_is_so : (b : Bool) (r : Answer) (at : ℕ) → cond b r (Err codec.BadTag) ≡ bad_at at → b ≡ true
tag_is_so true r at e = refl
tag_is_so false r at e = absurd cc

picked_so : (b : Bool) (r x : Answer) → b ≡ true → r ≡ x → cond b r (Err codec.BadTag) ≡ x
picked_so true r x is e = e
picked_so false r x is e = absurd cc

-- the fault of bytes with an update's tag is told
fault_told : (tag : ℕ) (rest : List ℕ) (at : ℕ) → decoded (tag ∷ rest) ≡ bad_at at → (eqb tag update_tag ≡ true) × (told_of (tag ∷ rest) ≡ bad_at at)
unfolding decoded
fault_told tag rest at e = (tag_is_so (eqb tag update_tag) (told_of (tag ∷ rest)) at e, picked (eqb tag update_tag) (told_of (tag ∷ rest)) (bad_at at) (λ h. absurd cc) e)

told_fault : (tag : ℕ) (rest : List ℕ) (at : ℕ) → eqb tag update_tag ≡ true → told_of (tag ∷ rest) ≡ bad_at at → decoded (tag ∷ rest) ≡ bad_at at
unfolding decoded
told_fault tag rest at is e = picked_so (eqb tag update_tag) (told_of (tag ∷ rest)) (bad_at at) is e

-- where a fault that is told begins
told_bad : (len : ℕ) (r : Result (Update × List ℕ) Misfit) (at : ℕ) → told len r ≡ bad_at at → (left : ℕ) × (r ≡ Err (Bad left)) × (len - left ≡ at)
told_bad len (Ok x) at e = absurd cc
told_bad len (Err Short) at e = absurd cc
told_bad len (Err (Bad left)) at e = (left, refl, cc)

-- with the four bytes from its first on it is told
front_told : (tag : ℕ) (front back : List ℕ) (at : ℕ) → at + 4 ≤ suc (length front) → told_of (tag ∷ (front ++ back)) ≡ bad_at at → told_of (tag ∷ front) ≡ bad_at at
front_told tag front back at le e =
    let b = told_bad (suc (length (front ++ back))) (first_update (tag ∷ (front ++ back))) at e in
    let len = length-append front back in
    let within : b.0 ≤ suc (length (front ++ back)) = (goes_update chart_numbers None).bad_is_within (tag ∷ (front ++ back)) b.0 b.1 in
    let left = b.0 - length back in
    let same : b.0 ≡ left + length back = omega (arith, b.2, len, within, le) in
    let four : 4 ≤ left = omega (arith, b.2, len, within, le) in
    let again : first_update (tag ∷ front) ≡ Err (Bad left) = (goes_update chart_numbers None).bad_at_once (tag ∷ front) back left four (subst (λ (k : ℕ). first_update (tag ∷ (front ++ back)) ≡ Err (Bad k)) same b.1) in
    let place : suc (length front) - left ≡ at = omega (arith, b.2, len, within, le) in
    ap (told (suc (length front))) again ∙ ap bad_at place

front_fault : (tag : ℕ) (front back : List ℕ) (at : ℕ) → at + 4 ≤ suc (length front) → decoded (tag ∷ (front ++ back)) ≡ bad_at at → decoded (tag ∷ front) ≡ bad_at at
front_fault tag front back at le e =
    let t = fault_told tag (front ++ back) at e in
    told_fault tag front at t.0 (front_told tag front back at le t.1)

taken_fault : (tag : ℕ) (rest : List ℕ) (at m : ℕ) → decoded (tag ∷ rest) ≡ bad_at at → at + 4 ≤ suc m → (m ≤ length rest) ⊎ (length rest ≤ m) → decoded (tag ∷ take m rest) ≡ bad_at at
taken_fault tag rest at m e le (inl few) =
    let len : length (take m rest) ≡ m = length-take-le m rest few in
    front_fault tag (take m rest) (drop m rest) at (omega (arith, len, le)) (ap (λ (s : List ℕ). decoded (tag ∷ s)) (take-append-drop m rest) ∙ e)
taken_fault tag rest at m e le (inr all) = ap (λ (s : List ℕ). decoded (tag ∷ s)) (take_all m rest all) ∙ e

either_le : (m n : ℕ) → (m ≤ n) ⊎ (n ≤ m)
either_le m n =
    elim (cases_lt m n) [
      | inl lt ↦ inl (omega arith)
      | inr le ↦ inr le
    ]

pub fault_at_once : FaultComesAtOnce
unfolding decoded
fault_at_once [] at n e le = absurd cc
fault_at_once (tag ∷ rest) at zero e le = absurd (omega arith)
fault_at_once (tag ∷ rest) at (suc m) e le = taken_fault tag rest at m e le (either_le m (length rest))
