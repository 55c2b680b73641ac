-- What the append of a head does.
use Rattle.std.proofs.Common.{◌≡◌, ◌≢◌, ℕ, ◌+◌, ◌≤◌, Bool, true, false, List, [], ◌∷◌, ◌++◌, length, Option, Some, None, refl, sym, ap, ◌∙◌, subst, inl, inr, ⊎_elim, arith}
use Rattle.std.specs.Prelude.{◌⊎◌, is_some, Result, Ok, Err, OnOk, IsErrOf}
use Rattle.wf_disk.specs.Disk.{Told, IsLawful, IsSafeFor, LeavesOnly}
use Rattle.wf_disk.proofs.Runs.{started, weaker, cause_none}
use Rattle.wf_journal.specs.Frames.{bodies_of, IsBeforeOrAfter}
use Rattle.wf_journal.specs.Journal.{IsLeftAs, IsLeft}
use Rattle.wf_journal.specs.State.{Kept}
use Rattle.wf_journal.specs.Faults.{refusal_of}
use Rattle.wf_journal.proofs.Answered.{unasked}
use Rattle.wf_journal.specs.declared.fault.AppendFault.{AppendFault}
use Rattle.wf_journal.specs.declared.fault.AppendFault.TheVariants as appends
use Rattle.wf_codec.specs.declared.record.JournalRecord.TheVariants.{Head}
use Rattle.wf_codec.specs.Records.{record_of}
use Rattle.wf_parts.specs.declared.data.PartData.{PartData}
use Rattle.wf_histories.specs.Histories.{History}
use Rattle.wf_worlds.specs.Worlds.{first_history}
use Rattle.wf_steps.specs.declared.fault.RecoverFault.{RecoverFault}
use Rattle.wf_steps.specs.Records.{history_of}
use Rattle.wf_server.specs.Images.{IsLike, HoldsOneOf}
use Rattle.wf_server.specs.Starting.{RunsFor}
use Rattle.wf_server.specs.Heads.{KeepsHistory, Stretch, IsEmpty, IsOpen}
use Rattle.wf_server.proofs.Standing.{Appended, told_before, some_is}
use Rattle.wf_server.proofs.Reading.{no_snoc, can_start_whole}
use Rattle.wf_server.proofs.Stretches.{struck_within}
use Rattle.wf_server.proofs.Empty.{none_holds, head_holds, rests_readable}

module _ {D : Type 0} (told : D → Told) (lawful : (d : D) → IsLawful (told d)) (j j' : Kept D) (body : List ℕ) (result : Result (Unit {0}) AppendFault) (said : Appended told j j' body result) (part : PartData) (healthy : j.failed ≡ false) (empty : IsEmpty (told j.disk)) (read : record_of body ≡ Some (Head 1 part.chart part.name)) where
  abbrev first : Result History RecoverFault
  first = Ok (first_history part.unit.0)

  unmoved : (fault : AppendFault) → result ≡ Err fault → (fault ≡ appends.NoMemory → ⊥) → (fault ≡ appends.DiskFailed → ⊥) → (told j'.disk).clock ≤ (told j.disk).clock + 4
  unmoved fault is memory disk =
      let same : j' ≡ j = unasked (refusal_of j.failed j.place (length body)) result j j' fault said.refused said.other is memory disk in
      let P : Kept D → Type 0 = λ k. (told k.disk).clock ≤ (told j.disk).clock + 4 in
      subst P (sym same) (omega arith)

  one_holds : (file c : List ℕ) → bodies_of file ≡ [] → IsBeforeOrAfter (bodies_of file) body c → history_of part c ≡ first
  one_holds file c none was = ⊎_elim (λ e. none_holds part c (e ∙ none)) (λ e. head_holds part c body read (e ∙ ap (λ (l : List (List ℕ)). l ++ body ∷ []) none)) was.bodies

  leaves : (file : List ℕ) → (told j.disk).image ≡ Some file → LeavesOnly (told j.disk) (told j'.disk) (IsLike part file)
  leaves file is =
      let none = empty file is in
      weaker (told j.disk) (told j'.disk) (IsBeforeOrAfter (bodies_of file) body) (IsLike part file) (said.any_moment healthy file is)
      (λ c was. record {
        begun = λ some. absurd (some none);
        starts = λ _. can_start_whole c was.whole;
        history = one_holds file c none was ∙ sym (none_holds part file none);
      })

  head_keeps : KeepsHistory part (told j.disk) (told j'.disk)
  head_keeps = record {
    image = λ file now was is.
        let run = leaves file was in
        (run.each now ((lawful j'.disk).counts_now (told j.disk).moment run.later now ((lawful j'.disk).stands now is))).history;
    same = λ file was some. absurd (some (empty file was));
    crash = λ file is.
        weaker (told j.disk) (told j'.disk) (IsLike part file) (HoldsOneOf part (told j.disk).may_leave) (leaves file is)
        (λ c same. (file, (lawful j.disk).stands file is, same));
  }

  within : (r : Result (Unit {0}) AppendFault) → result ≡ r → (told j'.disk).clock ≤ (told j.disk).clock + 4
  within (Ok u) is = let P : Result (Unit {0}) AppendFault → Type 0 = λ r. OnOk r ((told j'.disk).clock ≡ (told j.disk).clock + 4) in let four = subst P is said.four in omega (arith, four)
  within (Err appends.NoMemory) is = let two = said.two is in omega (arith, two)
  within (Err appends.DiskFailed) is = struck_within (told j.disk) (told j'.disk) 4 (said.plan.struck is)
  within (Err appends.Reopen) is = unmoved appends.Reopen is (λ e. cc e) (λ e. cc e)
  within (Err appends.TooLong) is = unmoved appends.TooLong is (λ e. cc e) (λ e. cc e)
  within (Err appends.Full) is = unmoved appends.Full is (λ e. cc e) (λ e. cc e)

  head_runs : RunsFor (told j.disk) (told j'.disk) 4 (IsErrOf result appends.DiskFailed)
  head_runs = record {
    within = within result refl;
    done = said.plan.done;
    struck = λ fails. inl (said.plan.struck fails);
    safe = λ safe fails. said.safe (λ n after within. safe n after (omega (arith, within))) fails;
    cause = said.cause;
    tells = said.tells;
  }

  pub head_stretch : Stretch part (told j.disk) (told j'.disk) 4 (IsErrOf result appends.DiskFailed)
  head_stretch = record { runs = head_runs; keeps = head_keeps }

  pub head_open : result ≡ Ok tt → IsOpen (told j'.disk)
  head_open ok = record {
    begun = λ file is e. no_snoc (bodies_of (from file is).0) body (sym (left file is).bodies ∙ e);
    still = λ file is. (left file is).settled.only;
    readable = λ file is. rests_readable file j'.place (left file is).settled.rests;
  }
    where
      from : (file : List ℕ) → (told j'.disk).image ≡ Some file → (old : List ℕ) × ((told j.disk).image ≡ Some old)
      from file is = told_before (told j'.disk).image (told j.disk).image file said.tells is

      is_left : IsLeft (told j.disk) (told j'.disk) j'.place (body ∷ [])
      is_left = let P : Result (Unit {0}) AppendFault → Type 0 = λ r. OnOk r (IsLeft (told j.disk) (told j'.disk) j'.place (body ∷ [])) in subst P ok said.ok

      left : (file : List ℕ) (is : (told j'.disk).image ≡ Some file) → IsLeftAs (from file is).0 file (told j'.disk) j'.place (body ∷ [])
      left file is =
          let old = from file is in
          let new = is_left old.0 old.1 in
          let same : new.0 ≡ file = some_is (sym new.1.image ∙ is) in
          subst (λ f. IsLeftAs old.0 f (told j'.disk) j'.place (body ∷ [])) same new.1
