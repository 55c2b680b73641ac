-- An admission that the journal was asked to add.
use Rattle.std.proofs.Common.{◌≡◌, ℕ, ◌+◌, ◌<◌, ◌≤◌, not, cond, Bool, true, false, List, length, Option, Some, None, refl, sym, ap, ◌∙◌, subst}
use Rattle.std.specs.Prelude.{◌&&◌, is_some, is_ok, Result, Ok, Err, IsErrOf}
use Rattle.wf_model.specs.declared.outer.Outer.{Outer}
use Rattle.wf_disk.specs.Disk.{Told, IsLawful}
use Rattle.wf_journal.specs.State.{Kept}
use Rattle.wf_journal.specs.Room.{UsesRoom}
use Rattle.wf_journal.specs.declared.fault.AppendFault.{AppendFault}
use Rattle.wf_journal.specs.declared.fault.AppendFault.TheVariants as appends
use Rattle.wf_codec.specs.Bodies.{IsBodyOf}
use Rattle.wf_codec.specs.Records.{record_spelling}
use Rattle.wf_parts.specs.declared.data.PartData.{PartData}
use Rattle.wf_histories.specs.Histories.{History}
use Rattle.wf_worlds.specs.Admitting.{lets_in}
use Rattle.wf_steps.specs.Growing.{place_of, MayAdmit}
use Rattle.wf_steps.specs.Records.{after}
use Rattle.wf_worlds.specs.Ends.{frame_size}
use Rattle.wf_server.specs.declared.fault.Admitted.{Admitted}
use Rattle.wf_server.specs.declared.fault.Admitted.TheVariants.{New, Again}
use Rattle.wf_server.specs.declared.fault.AdmitFault.{AdmitFault}
use Rattle.wf_server.specs.declared.fault.AdmitFault.TheVariants as admits
use Rattle.wf_server.specs.Servers.{Server, told_by, admission, admit_record, with_admission}
use Rattle.wf_server.specs.Images.{Stands, IsPlaced, CrashLeaves}
use Rattle.wf_server.specs.Running.{RunsOn}
use Rattle.wf_server.specs.Answers.{AdmitAnswers, IsNew, IsNewRequest, unadmitted_by}
use Rattle.wf_server.proofs.Beginnings.{begins_admitted}
use Rattle.wf_server.proofs.Standing.{Written, Appended, crash_none, crash_append, healthy_ok, placed_ok, placed_err, stands_ok, stands_err}
use Rattle.wf_server.proofs.Runs.{runs_none, room_none, runs_ok, runs_err, reopen_failed}
use Rattle.wf_server.proofs.Asked.{said_ok, said_err, said_disk, never_said_long, place_then, room_used}

pub may_admit : {D : Type 0} (server : Server D) (request : ℕ) (outer : Outer) → IsNewRequest server request outer (Ok tt) → MayAdmit server.part server.past (admission request outer)
may_admit server request outer new = record { fresh = new.fresh; lets = ap is_ok new.lets }

admit_follows : (part : PartData) (past : History) (request : ℕ) (outer : Outer) → MayAdmit part past (admission request outer) → after part past (admit_record request outer) ≡ Some (with_admission past request outer)
unfolding after
admit_follows part past request outer may =
    ap (λ (o : Option ℕ). cond (not (is_some o) && is_ok (lets_in part past outer)) (Some (with_admission past request outer)) None) may.fresh
    ∙ ap (λ (b : Bool). cond b (Some (with_admission past request outer)) None) may.lets

-- which faults are which

memory_only : (fault : AppendFault) → ◌≡◌ {A = Result Admitted AdmitFault} (Err (unadmitted_by fault)) (Err admits.NoMemory) → fault ≡ appends.NoMemory
memory_only appends.Reopen e = absurd (cc e)
memory_only appends.TooLong e = absurd (cc e)
memory_only appends.Full e = absurd (cc e)
memory_only appends.NoMemory e = refl
memory_only appends.DiskFailed e = absurd (cc e)

disk_only : (fault : AppendFault) → ◌≡◌ {A = Result Admitted AdmitFault} (Err (unadmitted_by fault)) (Err admits.DiskFailed) → fault ≡ appends.DiskFailed
disk_only appends.Reopen e = absurd (cc e)
disk_only appends.TooLong e = absurd (cc e)
disk_only appends.Full e = absurd (cc e)
disk_only appends.NoMemory e = absurd (cc e)
disk_only appends.DiskFailed e = refl

err_is : {fault other : AppendFault} → ◌≡◌ {A = Result (Unit {0}) AppendFault} (Err fault) (Err other) → fault ≡ other
err_is e = cc e

-- THE SERVER b, seen from its fields as a
module _ {D : Type 0} (told : D → Told) (lawful : (d : D) → IsLawful (told d)) (a b : Server D) (view_is : a ≡ b) (request : ℕ) (outer : Outer) (stands : Stands (told a.journal.disk) a.journal.failed a.part a.past) where
  -- the call makes no stroke
  pub crash_idle : CrashLeaves (told_by told b) (told_by told b) b.journal.failed b.part b.past (with_admission b.past request outer)
  crash_idle =
      let P : Server D → Type 0 = λ s. CrashLeaves (told_by told s) (told_by told s) s.journal.failed s.part s.past (with_admission s.past request outer) in
      subst P view_is (crash_none (told a.journal.disk) a.journal.failed a.part a.past (with_admission a.past request outer) (lawful a.journal.disk) stands)

  -- the journal wasn't asked
  pub crash_unasked : CrashLeaves (told_by told b) (told a.journal.disk) b.journal.failed b.part b.past (with_admission b.past request outer)
  crash_unasked =
      let P : Server D → Type 0 = λ s. CrashLeaves (told_by told s) (told a.journal.disk) s.journal.failed s.part s.past (with_admission s.past request outer) in
      subst P view_is (crash_none (told a.journal.disk) a.journal.failed a.part a.past (with_admission a.past request outer) (lawful a.journal.disk) stands)

  pub room_idle : (used_writes used_bytes : ℕ) → UsesRoom (told_by told b) (told_by told b) used_writes used_bytes
  room_idle used_writes used_bytes = room_none (told_by told b) (lawful b.journal.disk) used_writes used_bytes

  pub room_unasked : (used_writes used_bytes : ℕ) → UsesRoom (told_by told b) (told a.journal.disk) used_writes used_bytes
  room_unasked used_writes used_bytes =
      let P : Server D → Type 0 = λ s. UsesRoom (told_by told s) (told a.journal.disk) used_writes used_bytes in
      subst P view_is (room_none (told a.journal.disk) (lawful a.journal.disk) used_writes used_bytes)

  pub runs_unasked : (added no_memory failed : Type 0) → (added → ⊥) → (failed → ⊥) → RunsOn (told_by told b) (told a.journal.disk) added no_memory failed
  runs_unasked added no_memory failed not_added not_failed =
      let P : Server D → Type 0 = λ s. RunsOn (told_by told s) (told a.journal.disk) added no_memory failed in
      subst P view_is (runs_none (told a.journal.disk) added no_memory failed not_added not_failed)

  -- it was
  module _ (new : IsNewRequest b request outer (Ok tt)) (j' : Kept D) (body : List ℕ) (is : IsBodyOf (admit_record request outer) body) (result : Result (Unit {0}) AppendFault) (said : Appended told a.journal j' body result) where
    new_inside : IsNewRequest a request outer (Ok tt)
    new_inside = let P : Server D → Type 0 = λ s. IsNewRequest s request outer (Ok tt) in subst P (sym view_is) new

    written : Written a.part a.past (with_admission a.past request outer) body
    written = record {
      entry = admit_record request outer;
      read = is.read;
      spelled = is.spelled;
      follows = admit_follows a.part a.past request outer (may_admit a request outer new_inside);
      on = begins_admitted a.past (admission request outer);
    }

    pub crash_asked : CrashLeaves (told_by told b) (told j'.disk) b.journal.failed b.part b.past (with_admission b.past request outer)
    crash_asked =
        let P : Server D → Type 0 = λ s. CrashLeaves (told_by told s) (told j'.disk) s.journal.failed s.part s.past (with_admission s.past request outer) in
        subst P view_is (crash_append told lawful a.journal j' body result a.part a.past (with_admission a.past request outer) stands written said)

    pub stands_added : result ≡ Ok tt → Stands (told j'.disk) j'.failed a.part (with_admission a.past request outer)
    stands_added done = stands_ok told lawful a.journal j' body result a.part a.past (with_admission a.past request outer) stands written said new_inside.healthy done

    pub stands_kept : (fault : AppendFault) → result ≡ Err fault → Stands (told j'.disk) j'.failed a.part a.past
    stands_kept fault err = stands_err told lawful a.journal j' body result a.part a.past (with_admission a.past request outer) stands written said new_inside.healthy fault err

    pub healthy_added : result ≡ Ok tt → j'.failed ≡ false
    healthy_added done = healthy_ok told lawful a.journal j' body result a.part a.past (with_admission a.past request outer) stands written said new_inside.healthy done

    pub placed_added : IsPlaced told a.journal a.part a.past → result ≡ Ok tt → IsPlaced told j' a.part (with_admission a.past request outer)
    placed_added placed done = placed_ok told lawful a.journal j' body result a.part a.past (with_admission a.past request outer) stands written said placed done

    pub placed_kept : IsPlaced told a.journal a.part a.past → (fault : AppendFault) → result ≡ Err fault → IsPlaced told j' a.part a.past
    placed_kept placed fault err = placed_err told lawful a.journal j' body result a.part a.past (with_admission a.past request outer) stands written said placed fault err

    pub place_added : result ≡ Ok tt → j'.place ≡ b.journal.place + frame_size (admit_record request outer)
    place_added done =
        let P : Server D → Type 0 = λ s. j'.place ≡ s.journal.place + frame_size (admit_record request outer) in
        subst P view_is (place_then told a.journal j' (admit_record request outer) body is result said done)

    pub room_asked : UsesRoom (told_by told b) (told j'.disk) 2 (length (record_spelling (admit_record request outer)) + 6)
    room_asked =
        let P : Server D → Type 0 = λ s. UsesRoom (told_by told s) (told j'.disk) 2 (length (record_spelling (admit_record request outer)) + 6) in
        subst P view_is (room_used told a.journal j' (admit_record request outer) body is result said)

    pub answer_added : (n : ℕ) → result ≡ Ok tt → n ≡ length a.past.admissions + 1 → AdmitAnswers b request outer (Ok (New n))
    answer_added n done number =
        let P : Server D → Type 0 = λ s. AdmitAnswers s request outer (Ok (New n)) in
        subst P view_is (new_inside, said_ok told a.journal j' (admit_record request outer) body is result said done, number)

    pub answer_refused : (fault : AppendFault) → result ≡ Err fault → AdmitAnswers b request outer (Err (unadmitted_by fault))
    answer_refused fault err = let P : Server D → Type 0 = λ s. AdmitAnswers s request outer (Err (unadmitted_by fault)) in subst P view_is (go fault err)
      where
        go : (fault : AppendFault) → result ≡ Err fault → AdmitAnswers a request outer (Err (unadmitted_by fault))
        go appends.Reopen err = reopen_failed _ _ _ (said_err told a.journal j' (admit_record request outer) body is result said appends.Reopen err (λ e. cc e) (λ e. cc e))
        go appends.TooLong err = absurd (never_said_long told a.journal j' (admit_record request outer) body is result said err)
        go appends.Full err = (new_inside, said_err told a.journal j' (admit_record request outer) body is result said appends.Full err (λ e. cc e) (λ e. cc e))
        go appends.NoMemory err = tt
        go appends.DiskFailed err = (new_inside, said_disk told a.journal j' (admit_record request outer) body is result said new_inside.healthy err)

    pub runs_added : (n : ℕ) → result ≡ Ok tt → RunsOn (told_by told b) (told j'.disk) (IsNew (Ok (New n))) (IsErrOf {T = Admitted} (Ok (New n)) admits.NoMemory) (IsErrOf {T = Admitted} (Ok (New n)) admits.DiskFailed)
    runs_added n done =
        let P : Server D → Type 0 = λ s. RunsOn (told_by told s) (told j'.disk) (IsNew (Ok (New n))) (IsErrOf {T = Admitted} (Ok (New n)) admits.NoMemory) (IsErrOf {T = Admitted} (Ok (New n)) admits.DiskFailed) in
        subst P view_is (runs_ok told a.journal j' body result said _ _ _ done (λ e. cc e) (λ e. cc e))

    pub runs_refused : (fault : AppendFault) → result ≡ Err fault → RunsOn (told_by told b) (told j'.disk) (IsNew (Err (unadmitted_by fault))) (IsErrOf {T = Admitted} (Err (unadmitted_by fault)) admits.NoMemory) (IsErrOf {T = Admitted} (Err (unadmitted_by fault)) admits.DiskFailed)
    runs_refused fault err =
        let P : Server D → Type 0 = λ s. RunsOn (told_by told s) (told j'.disk) (IsNew (Err (unadmitted_by fault))) (IsErrOf {T = Admitted} (Err (unadmitted_by fault)) admits.NoMemory) (IsErrOf {T = Admitted} (Err (unadmitted_by fault)) admits.DiskFailed) in
        subst P view_is (runs_err told a.journal j' body result said _ _ _ (λ e. e)
        (λ e. err ∙ ap (λ (f : AppendFault). Err f) (memory_only fault e))
        (λ e. err ∙ ap (λ (f : AppendFault). Err f) (disk_only fault e))
        (λ e. ap (λ (f : AppendFault). Err (unadmitted_by f)) (err_is (sym err ∙ e))))

    module _ (fault : AppendFault) (err : result ≡ Err fault) (r : Result Admitted AdmitFault) (r_is : r ≡ Err (unadmitted_by fault)) where
      pub answer_err : AdmitAnswers b request outer r
      answer_err = subst (AdmitAnswers b request outer) (sym r_is) (answer_refused fault err)

      pub runs_of_err : RunsOn (told_by told b) (told j'.disk) (IsNew r) (IsErrOf r admits.NoMemory) (IsErrOf r admits.DiskFailed)
      runs_of_err = let P : Result Admitted AdmitFault → Type 0 = λ x. RunsOn (told_by told b) (told j'.disk) (IsNew x) (IsErrOf x admits.NoMemory) (IsErrOf x admits.DiskFailed) in subst P (sym r_is) (runs_refused fault err)
