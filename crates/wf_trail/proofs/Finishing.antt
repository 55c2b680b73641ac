-- How a trail is finished: its text may be too long, and a disk may not have been taken back.
use Rattle.std.proofs.Common.{◌≡◌, ℕ, ◌<◌, ◌≤◌, ◌⊎◌, inl, inr, Bool, nat_le, cond, List, length, Option, Some, None, Result, Ok, Err, refl, sym, ap, ◌∙◌, subst, true≢false}
use Rattle.std.specs.Prelude.{is_some, is_ok, IsOk, IsSome, IfErr, IfSome, IsErrAnd}
use Rattle.std.proofs.lemmas.Bool.{le-leb, lt-leb}
use Rattle.wf_model.specs.Limits.{max_report}
use Rattle.wf_model.specs.declared.ids.UnitId.{UnitId}
use Rattle.wf_trail.specs.declared.fault.TrailFault.{TrailFault}
use Rattle.wf_trail.specs.declared.fault.TrailFault.TheVariants as f
use Rattle.wf_trail.specs.declared.shelf.Trails.{Trails}
use Rattle.wf_trail.specs.Shelves.{IsOfDisk, IsOfUnits}
use Rattle.wf_trail.specs.Images.{short_text}
use Rattle.wf_trail.specs.Telling.{TellsShort, NamesUnits}

-- OF ONE THAT MAY BE TOO LONG

short_tells : (text : List ℕ) → length text ≤ max_report → TellsShort (Ok text) (Ok text)
short_tells text short = λ wanted a. ap short_text a ∙ ap (λ (b : Bool). cond b (Ok text) (Err f.TooLong)) (le-leb (length text) max_report short)

long_tells : (text : List ℕ) → max_report < length text → TellsShort (Ok text) (Err f.TooLong)
long_tells text long = λ wanted a. ap short_text a ∙ ap (λ (b : Bool). cond b (Ok text) (Err f.TooLong)) (lt-leb (length text) max_report long)

fault_stays : (fault : TrailFault) → TellsShort (Err fault) (Err fault)
fault_stays (f.DiskFailed unit) = λ wanted a. tt
fault_stays (f.Foreign unit kept names) = λ wanted a. ap short_text a
fault_stays (f.Bad unit at first) = λ wanted a. ap short_text a
fault_stays f.TooLong = λ wanted a. ap short_text a
fault_stays f.NoMemory = λ wanted a. tt

-- what is answered at the end
pub record IsFinished (trail : Trails) (whole : Result (List ℕ) TrailFault) : Type 0 where
  pub text : TellsShort trail.text whole
  pub cause : IsErrAnd whole IsOfDisk → (IsErrAnd trail.text IsOfDisk) ⊎ (IsSome trail.lost)
  pub ok : IsOk whole → IsOk trail.text × (trail.lost ≡ None)
  pub unit : (units : ℕ) → NamesUnits units trail → IfErr whole (IsOfUnits units)

module _ (trail : Trails) where
  -- the text failed
  pub text_failed : (whole : Result (List ℕ) TrailFault) (fault : TrailFault) → trail.text ≡ Err fault → whole ≡ Err fault → IsFinished trail whole
  text_failed whole fault was is =
      let same : whole ≡ trail.text = is ∙ sym was in
      let T : Result (List ℕ) TrailFault → Type 0 = λ r. TellsShort r (Err fault) in
      let W : Result (List ℕ) TrailFault → Type 0 = λ r. TellsShort trail.text r in
      record {
        text = subst W (sym is) (subst T (sym was) (fault_stays fault));
        cause = λ of. inl (subst (λ (r : Result (List ℕ) TrailFault). IsErrAnd r IsOfDisk) same of);
        ok = λ ok. absurd (no_ok whole fault is ok);
        unit = λ units named. subst (λ (r : Result (List ℕ) TrailFault). IfErr r (IsOfUnits units)) (sym same) named.text;
      }
    where
      no_ok : (r : Result (List ℕ) TrailFault) (e : TrailFault) → r ≡ Err e → IsOk r → ⊥
      no_ok (Ok t) e eq ok = cc eq
      no_ok (Err d) e eq ok = true≢false (sym ok)

  -- it is too long
  pub too_long : (text : List ℕ) → trail.text ≡ Ok text → max_report < length text → IsFinished trail (Err f.TooLong)
  too_long text was long =
      let T : Result (List ℕ) TrailFault → Type 0 = λ r. TellsShort r (Err f.TooLong) in
      record {
        text = subst T (sym was) (long_tells text long);
        cause = λ of. absurd of;
        ok = λ ok. absurd (true≢false (sym ok));
        unit = λ units named. tt;
      }

  -- a disk wasn't taken back
  pub disk_lost : (unit : UnitId) → trail.lost ≡ Some unit → IsFinished trail (Err (f.DiskFailed unit))
  disk_lost unit is = record {
    text = λ wanted told. tt;
    cause = λ of. inr (ap (λ (o : Option UnitId). is_some o) is);
    ok = λ ok. absurd (true≢false (sym ok));
    unit = λ units named. subst (λ (o : Option UnitId). IfSome o (λ u. u.0 < units)) is named.lost;
  }

  -- nothing is wrong
  pub all_stands : (text : List ℕ) → trail.text ≡ Ok text → length text ≤ max_report → trail.lost ≡ None → IsFinished trail (Ok text)
  all_stands text was short none =
      let T : Result (List ℕ) TrailFault → Type 0 = λ r. TellsShort r (Ok text) in
      record {
        text = subst T (sym was) (short_tells text short);
        cause = λ of. absurd of;
        ok = λ ok. (ap (λ (r : Result (List ℕ) TrailFault). is_ok r) was, none);
        unit = λ units named. tt;
      }
