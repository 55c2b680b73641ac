-- What an image with one body more holds.
use Rattle.std.proofs.Common.{◌≡◌, ℕ, ◌+◌, ◌||◌, not, nat_lt, Bool, true, false, List, [], ◌∷◌, ◌++◌, length, Option, Some, None, refl, sym, ap, ◌∙◌}
use Rattle.std.specs.Prelude.{Result, Ok, Err, option_and_then}
use Rattle.wf_journal.specs.Frames.{header, bodies_of, is_broken, can_start}
use Rattle.wf_codec.specs.declared.record.JournalRecord.{JournalRecord}
use Rattle.wf_codec.specs.Records.{record_of}
use Rattle.wf_parts.specs.declared.data.PartData.{PartData}
use Rattle.wf_histories.specs.Histories.{History}
use Rattle.wf_steps.specs.declared.fault.RecoverFault.{RecoverFault}
use Rattle.wf_steps.specs.Records.{after, after_body, or_bad, bad_at, and_on, read_on, head_of, history_in, history_of}
use Rattle.wf_server.specs.Images.{Holds}

not_ok : {fault : RecoverFault} {h : History} → ◌≡◌ {A = Result History RecoverFault} (Err fault) (Ok h) → ⊥
not_ok e = cc

pub one_ok : {a b : History} → ◌≡◌ {A = Result History RecoverFault} (Ok a) (Ok b) → a ≡ b
one_ok e = cc

-- a journal starts on whole frames
pub can_start_whole : (file : List ℕ) → is_broken file ≡ false → can_start file ≡ true
can_start_whole file whole = go (nat_lt (length file) 2)
  where
    go : (short : Bool) → (short || not (is_broken file)) ≡ true
    go true = refl
    go false = ap not whole

pub no_snoc : {A : Type 0} (xs : List A) (x : A) → xs ++ x ∷ [] ≡ [] → ⊥
no_snoc [] x e = cc
no_snoc (y ∷ ys) x e = cc

module _ (part : PartData) (past next : History) (body : List ℕ) (r : JournalRecord) (read : record_of body ≡ Some r) (follows : after part past r ≡ Some next) where
  last_read : after_body part past body ≡ Some next
  last_read = ap (option_and_then (after part past)) read ∙ follows

  read_more : (bodies : List (List ℕ)) (at : ℕ) (h : History) → read_on part bodies at h ≡ Ok past → read_on part (bodies ++ body ∷ []) at h ≡ Ok next
  read_more [] at h is =
      ap (λ (x : History). or_bad (bad_at (at + header) body) (after_body part x body) (λ n. Ok n)) (one_ok is)
      ∙ ap (λ (o : Option History). or_bad (bad_at (at + header) body) o (λ n. Ok n)) last_read
  read_more (b ∷ bodies) at h is = go (after_body part h b) is (read_more bodies (at + (header + length b)))
    where
      go : (o : Option History) → or_bad (bad_at (at + header) b) o (λ n. read_on part bodies (at + (header + length b)) n) ≡ Ok past →
          ((n : History) → read_on part bodies (at + (header + length b)) n ≡ Ok past → read_on part (bodies ++ body ∷ []) (at + (header + length b)) n ≡ Ok next) →
          or_bad (bad_at (at + header) b) o (λ n. read_on part (bodies ++ body ∷ []) (at + (header + length b)) n) ≡ Ok next
      go None e ih = absurd (not_ok e)
      go (Some n) e ih = ih n e

  all_more : (bodies : List (List ℕ)) → (bodies ≡ [] → ⊥) → history_in part bodies ≡ Ok past → history_in part (bodies ++ body ∷ []) ≡ Ok next
  all_more [] some is = absurd (some refl)
  all_more (b ∷ bodies) some is = go (head_of part b (record_of b)) is
    where
      go : (o : Result History RecoverFault) → and_on o (λ h. read_on part bodies (header + length b) h) ≡ Ok past → and_on o (λ h. read_on part (bodies ++ body ∷ []) (header + length b) h) ≡ Ok next
      go (Ok h) e = read_more bodies (header + length b) h e
      go (Err fault) e = absurd (not_ok e)

  pub image_more : (file c : List ℕ) → Holds part past file → bodies_of c ≡ bodies_of file ++ body ∷ [] → can_start c ≡ true → Holds part next c
  unfolding history_of
  image_more file c i is can = record {
    begun = λ e. no_snoc (bodies_of file) body (sym is ∙ e);
    starts = can;
    history = ap (history_in part) is ∙ all_more (bodies_of file) i.begun i.history;
  }

pub image_same : (part : PartData) (past : History) (file c : List ℕ) → Holds part past file → bodies_of c ≡ bodies_of file → can_start c ≡ true → Holds part past c
unfolding history_of
image_same part past file c i is can = record { begun = λ e. i.begun (sym is ∙ e); starts = can; history = ap (history_in part) is ∙ i.history }
