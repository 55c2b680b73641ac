-- What a recovery says of the disk as it was before the head.
use Rattle.std.proofs.Common.{◌≡◌, ◌≢◌, ℕ, ◌+◌, ◌≤◌, if◌then◌else◌, Bool, true, false, List, [], Option, Some, None, refl, sym, ap, ◌∙◌, subst, arith}
use Rattle.std.specs.Prelude.{is_some, Result, Ok, Err, IfOk, IfErr, IsErrAnd}
use Rattle.wf_disk.specs.Disk.{Told, IsSame}
use Rattle.wf_journal.specs.Frames.{bodies_of, end_of}
use Rattle.wf_journal.specs.Start.{CanBeRead}
use Rattle.wf_parts.specs.declared.data.PartData.{PartData}
use Rattle.wf_histories.specs.Histories.{History}
use Rattle.wf_steps.specs.declared.fault.RecoverFault.{RecoverFault}
use Rattle.wf_steps.specs.Records.{history_of}
use Rattle.wf_worlds.specs.Ends.{end_of_history}
use Rattle.wf_steps.specs.Recovering.{IsFault, OfImage, EndsAt}
use Rattle.wf_server.specs.Starting.{has_none}
use Rattle.wf_server.specs.Heads.{KeepsHistory, Stretch, HeadStrokes, most_head, IsStill, IsEmpty, IsBegun, IsOpen}
use Rattle.wf_server.proofs.Stretches.{told_too}
use Rattle.wf_server.proofs.Empty.{has_none_of, has_some_of}

-- where no frame stands, a head is written
pub empty_most : (disk : Told) → IsEmpty disk → 4 ≤ most_head disk.image
empty_most disk empty = go disk.image refl
  where
    go : (image : Option (List ℕ)) → disk.image ≡ image → 4 ≤ most_head image
    go None is = omega arith
    go (Some file) is = let strokes : most_head (Some file) ≡ 4 = ap (λ (none : Bool). if none then 4 else 0) (has_none_of (bodies_of file) (empty file is)) in omega (arith, strokes)

module _ (part : PartData) (old mid : Told) (keeps : KeepsHistory part old mid) (tells : is_some mid.image ≡ is_some old.image) (readable : CanBeRead mid) {A E : Type 0} where
  pub read_ok : (result : Result A E) (past : A → History) → OfImage mid part (λ wanted. IfOk result (λ x. wanted ≡ Ok (past x))) → IfOk result (λ x. (file : List ℕ) → old.image ≡ Some file → history_of part file ≡ Ok (past x))
  read_ok (Ok x) past of = λ file is. let here = told_too old.image mid.image tells file is in sym (keeps.image file here.0 is here.1) ∙ of here.0 here.1 (readable here.0 here.1)
  read_ok (Err e) past of = tt

  pub read_end : (result : Result A E) (of_part : A → PartData) (past : A → History) (new : Told) → IsBegun mid → new.image ≡ mid.image → IfOk result (λ x. EndsAt mid (of_part x) (past x)) →
      IfOk result (λ x. (file : List ℕ) → new.image ≡ Some file → end_of file ≡ end_of_history (of_part x) (past x))
  read_end (Ok x) of_part past new begun same ends = λ file is. let there = sym same ∙ is in ends file there (readable file there) (begun file there)
  read_end (Err e) of_part past new begun same ends = tt

  pub read_err : (result : Result A E) (fault : E → RecoverFault) → OfImage mid part (λ wanted. IfErr result (λ x. IsFault wanted (fault x))) → IfErr result (λ x. (file : List ℕ) → old.image ≡ Some file → IsFault (history_of part file) (fault x))
  read_err (Ok x) fault of = tt
  read_err (Err e) fault of = λ file is.
      let here = told_too old.image mid.image tells file is in
      let P : Result History RecoverFault → Type 0 = λ wanted. IsFault wanted (fault e) in
      subst P (keeps.image file here.0 is here.1) (of here.0 here.1 (readable here.0 here.1))

-- a disk that is open stays so
pub open_same : {A E : Type 0} (result : Result A E) (mid new : Told) → IsOpen mid → IsSame mid new → IfOk result (λ _. IsOpen new)
open_same (Ok x) mid new o same = record {
  begun = λ file is. o.begun file (sym same.image ∙ is);
  still = λ file is c may. o.still file (sym same.image ∙ is) c (same.crash c may);
  readable = λ file is. o.readable file (sym same.image ∙ is);
}
open_same (Err e) mid new o same = tt

module _ (part : PartData) (old new : Told) (most : ℕ) {A E : Type 0} where
  pub stretch_ok : (result : Result A E) (P : E → Type 0) → Stretch part old new most (IsErrAnd result P) → IfOk result (λ _. Stretch part old new most ⊥)
  stretch_ok (Ok x) P s = s
  stretch_ok (Err e) P s = tt

  pub stretch_err : (result : Result A E) (P : E → Type 0) → Stretch part old new most (IsErrAnd result P) → IfErr result (λ e. Stretch part old new most (P e))
  stretch_err (Ok x) P s = tt
  stretch_err (Err e) P s = s
