-- What the frames of a journal make of a history, one more at a time.
use Rattle.std.proofs.Common.{◌≡◌, ℕ, zero, suc, ◌+◌, ◌==◌, ◌&&◌, cond, Bool, true, false, List, [], ◌∷◌, map, drop, length, Option, Some, None, Result, Ok, Err, refl, sym, ap, ap₂, ◌∙◌, subst, arith}
use Rattle.std.specs.Prelude.{MatchResult}
use Rattle.wf_journal.specs.Frames.{Frame, open_gate, header, number_of, fits, frames_after, frames_from, end_of, bodies_of, frames_at}
use Rattle.wf_journal.specs.Journal.{IsPlace, IsRead}
use Rattle.wf_journal.proofs.Ends.{end_after, end_from-walk}
use Rattle.wf_parts.specs.declared.data.PartData.{PartData}
use Rattle.wf_codec.specs.Records.{record_of}
use Rattle.wf_histories.specs.Histories.{History}
use Rattle.wf_worlds.specs.Worlds.{first_history}
use Rattle.wf_steps.specs.declared.fault.RecoverFault.{RecoverFault}
use Rattle.wf_steps.specs.declared.fault.RecoverFault.TheVariants as f
use Rattle.wf_steps.specs.Records.{after_body, bad_at, or_bad, read_on, head_of, and_on, history_in, history_of}
use Rattle.wf_steps.specs.Recovering.{IsFault, Reads}

abbrev pub bodies : List ℕ → ℕ → List (List ℕ)
bodies file place = map (λ (frame : Frame). frame.body) (frames_from file place)

-- AT THE END

none_after : (at : ℕ) (xs : List ℕ) → end_after 0 xs ≡ 0 → frames_after at 0 xs ≡ []
none_after at [] e = refl
none_after at (g ∷ []) e = refl
none_after at (g ∷ (a ∷ [])) e = refl
none_after at (g ∷ (a ∷ (b ∷ []))) e = refl
none_after at (g ∷ (a ∷ (b ∷ (c ∷ [])))) e = refl
none_after at (g ∷ (a ∷ (b ∷ (c ∷ (d ∷ rest))))) e = go ((g == open_gate) && fits (number_of a b c d) rest) e
  where
    go : (t : Bool) → cond t (suc (suc (suc (suc (suc (end_after (number_of a b c d) rest)))))) 0 ≡ 0 →
        cond t (record { place = at; body = Rattle.std.proofs.Common.take (number_of a b c d) rest } ∷ frames_after (at + header) (number_of a b c d) rest) [] ≡ []
    go true q = absurd (omega (arith, q))
    go false q = refl

pub no_frames : (file : List ℕ) (place : ℕ) → IsPlace file place → place ≡ end_of file → frames_from file place ≡ []
no_frames file place is ends = none_after place (drop place file) (let q = is.end in omega (arith, ends, q, end_from-walk file place))

pub rest_end : (part : PartData) (file : List ℕ) (place : ℕ) (h : History) → IsPlace file place → place ≡ end_of file → read_on part (bodies file place) place h ≡ Ok h
rest_end part file place h is ends = ap (λ (fs : List Frame). read_on part (map (λ (frame : Frame). frame.body) fs) place h) (no_frames file place is ends)

pub history_end : (part : PartData) (file : List ℕ) → IsPlace file 0 → 0 ≡ end_of file → history_of part file ≡ Ok (first_history part.unit.0)
unfolding history_of bodies_of frames_at
history_end part file is ends = ap (λ (fs : List Frame). history_in part (map (λ (frame : Frame). frame.body) fs)) (no_frames file 0 is ends)

-- A BODY MORE

wrong : {h : History} {fault : RecoverFault} → ◌≡◌ {A = Result History RecoverFault} (Err fault) (Ok h) → ⊥
wrong e = cc

right : (h : History) (fault : RecoverFault) (P : Result History RecoverFault) → IsFault (Ok h) fault → IsFault P fault
right h (f.Foreign kept names) P is = absurd (wrong (sym is))
right h (f.BadRecord at first) P is = absurd (wrong (sym is))
right h f.DiskFailed P is = tt
right h f.NoMemory P is = tt

same_ok : {h g : History} → ◌≡◌ {A = Result History RecoverFault} (Ok h) (Ok g) → h ≡ g
same_ok e = cc

module _ (part : PartData) (file body : List ℕ) (place at next : ℕ) (h : History) (read : IsRead file place (Some next) body) (next_is : next ≡ place + (header + length body)) (at_is : at ≡ place + header) where
  rest : List (List ℕ)
  rest = bodies file next

  one_more : read_on part (bodies file place) place h ≡ or_bad (bad_at at body) (after_body part h body) (λ g. read_on part (bodies file next) next g)
  one_more =
      ap (λ (fs : List Frame). read_on part (map (λ (frame : Frame). frame.body) fs) place h) read.1
      ∙ ap₂ (λ (a b : ℕ). or_bad (bad_at a body) (after_body part h body) (λ g. read_on part (bodies file next) b g)) (sym at_is) (sym next_is)

  pub rest_more : (g : History) → or_bad (bad_at at body) (after_body part h body) (λ g. Ok g) ≡ Ok g → read_on part (bodies file place) place h ≡ read_on part (bodies file next) next g
  rest_more g ok = one_more ∙ go (after_body part h body) ok
    where
      go : (o : Option History) → or_bad (bad_at at body) o (λ g. Ok g) ≡ Ok g → or_bad (bad_at at body) o (λ g. read_on part (bodies file next) next g) ≡ read_on part (bodies file next) next g
      go None q = absurd (wrong q)
      go (Some k) q = ap (read_on part (bodies file next) next) (same_ok q)

  pub rest_wrong : (fault : RecoverFault) → IsFault (or_bad (bad_at at body) (after_body part h body) (λ g. Ok g)) fault → IsFault (read_on part (bodies file place) place h) fault
  rest_wrong fault is = subst (λ (r : Result History RecoverFault). IsFault r fault) (sym one_more) (go (after_body part h body) is)
    where
      go : (o : Option History) → IsFault (or_bad (bad_at at body) o (λ g. Ok g)) fault → IsFault (or_bad (bad_at at body) o (λ g. read_on part (bodies file next) next g)) fault
      go None q = q
      go (Some k) q = right k fault (read_on part (bodies file next) next k) q

module _ (part : PartData) (file body : List ℕ) (next : ℕ) (read : IsRead file 0 (Some next) body) (next_is : next ≡ header + length body) where
  first_more : history_of part file ≡ and_on (head_of part body (record_of body)) (λ h. read_on part (bodies file next) next h)
  unfolding history_of bodies_of frames_at
  first_more =
      ap (λ (fs : List Frame). history_in part (map (λ (frame : Frame). frame.body) fs)) read.1
      ∙ ap (λ (b : ℕ). and_on (head_of part body (record_of body)) (λ h. read_on part (bodies file next) b h)) (sym next_is)

  pub head_more : (g : History) → head_of part body (record_of body) ≡ Ok g → history_of part file ≡ read_on part (bodies file next) next g
  head_more g ok = first_more ∙ ap (λ (r : Result History RecoverFault). and_on r (λ h. read_on part (bodies file next) next h)) ok

  pub head_wrong : (fault : RecoverFault) → IsFault (head_of part body (record_of body)) fault → IsFault (history_of part file) fault
  head_wrong fault is = subst (λ (r : Result History RecoverFault). IsFault r fault) (sym first_more) (go (head_of part body (record_of body)) is)
    where
      go : (r : Result History RecoverFault) → IsFault r fault → IsFault (and_on r (λ h. read_on part (bodies file next) next h)) fault
      go (Ok k) q = right k fault (read_on part (bodies file next) next k) q
      go (Err e) q = q
