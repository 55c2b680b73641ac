-- A Turn that the journal was asked to add.
use Rattle.std.proofs.Common.{◌≡◌, ℕ, suc, ◌+◌, ◌<◌, ◌≤◌, cond, Bool, true, false, List, length, Option, Some, None, refl, sym, ap, ap₂, ◌∙◌, subst, arith, eq-eqb, eqb-true, lt-ltb}
use Rattle.std.specs.Prelude.{◌==◌, ◌&&◌, nat_lt, Result, Ok, Err, IsOk, IsErrOf}
use Rattle.wf_model.specs.Limits.{max_steps}
use Rattle.wf_model.specs.declared.update.Update.{Update}
use Rattle.wf_disk.specs.Disk.{Told, IsLawful}
use Rattle.wf_journal.specs.State.{Kept}
use Rattle.wf_journal.specs.Room.{UsesRoom}
use Rattle.wf_journal.specs.Faults.{refusal_of}
use Rattle.wf_journal.proofs.Answered.{unasked}
use Rattle.wf_journal.specs.declared.fault.AppendFault.{AppendFault}
use Rattle.wf_journal.specs.declared.fault.AppendFault.TheVariants as appends
use Rattle.wf_codec.specs.Records.{record_spelling}
use Rattle.wf_codec.specs.Bodies.{IsBodyOf}
use Rattle.wf_parts.specs.declared.data.PartData.{PartData}
use Rattle.wf_histories.specs.Histories.{History, taken}
use Rattle.wf_worlds.proofs.Growing.{turn_takes}
use Rattle.wf_steps.specs.Fitting.{are_inputs}
use Rattle.wf_steps.specs.Growing.{sealing, MayTurn}
use Rattle.wf_steps.specs.Records.{after}
use Rattle.wf_server.specs.declared.fault.Turn.{Turn}
use Rattle.wf_server.specs.declared.fault.Turn.TheVariants.{Took}
use Rattle.wf_server.specs.declared.fault.TurnFault.{TurnFault}
use Rattle.wf_server.specs.declared.fault.TurnFault.TheVariants as turns
use Rattle.wf_server.specs.Servers.{Server, told_by, inputs_of, held, held_in, turn_record, with_turn}
use Rattle.wf_server.specs.Images.{Stands, IsPlaced, CrashLeaves}
use Rattle.wf_server.specs.Running.{RunsOn}
use Rattle.wf_worlds.specs.Ends.{frame_size, longest_turn}
use Rattle.wf_server.specs.Answers.{CanTurn, TurnAnswers, untaken_by}
use Rattle.wf_server.proofs.Beginnings.{begins_turned}
use Rattle.wf_server.proofs.Standing.{Written, Appended, crash_none, crash_append, healthy_ok, placed_ok, placed_err, stands_ok, stands_err}
use Rattle.wf_server.proofs.Runs.{runs_none, runs_ok, runs_err, reopen_failed}
use Rattle.wf_server.proofs.Asked.{said_ok, said_err, said_disk, never_said_long, place_then, room_used}

turn_follows : (part : PartData) (past : History) (came : List (Option Update)) → MayTurn part past (inputs_of came) → after part past (turn_record past came) ≡ Some (with_turn past came)
unfolding after
turn_follows part past came may =
    ap (λ (b : Bool). cond (b && (nat_lt (taken past) max_steps && ((sealing past == sealing past) && are_inputs part (taken past + 1) (inputs_of came)))) (Some (with_turn past came)) None) (eq-eqb (taken past + 1) (taken past + 1) refl)
    ∙ ap (λ (b : Bool). cond (b && ((sealing past == sealing past) && are_inputs part (taken past + 1) (inputs_of came))) (Some (with_turn past came)) None) (lt-ltb (taken past) max_steps may.steps)
    ∙ ap (λ (b : Bool). cond (b && are_inputs part (taken past + 1) (inputs_of came)) (Some (with_turn past came)) None) (eq-eqb (sealing past) (sealing past) refl)
    ∙ ap (λ (b : Bool). cond b (Some (with_turn past came)) None) may.suited

-- which faults are which

memory_only : (fault : AppendFault) → ◌≡◌ {A = Result Turn TurnFault} (Err (untaken_by fault)) (Err turns.NoMemory) → fault ≡ appends.NoMemory
memory_only appends.Reopen e = absurd (cc e)
memory_only appends.TooLong e = absurd (cc e)
memory_only appends.Full e = absurd (cc e)
memory_only appends.NoMemory e = refl
memory_only appends.DiskFailed e = absurd (cc e)

disk_only : (fault : AppendFault) → ◌≡◌ {A = Result Turn TurnFault} (Err (untaken_by fault)) (Err turns.DiskFailed) → fault ≡ appends.DiskFailed
disk_only appends.Reopen e = absurd (cc e)
disk_only appends.TooLong e = absurd (cc e)
disk_only appends.Full e = absurd (cc e)
disk_only appends.NoMemory e = absurd (cc e)
disk_only appends.DiskFailed e = refl

err_is : {fault other : AppendFault} → ◌≡◌ {A = Result (Unit {0}) AppendFault} (Err fault) (Err other) → fault ≡ other
err_is e = cc e

pub took_now : (past : History) (came : List (Option Update)) → taken (with_turn past came) ≡ taken past + 1
took_now past came = turn_takes past (inputs_of came) ∙ (let e : suc (taken past) ≡ taken past + 1 = omega arith in e)

-- of later steps a server holds after a Turn what it held
pub held_later : {D : Type 0} (old new : Server D) → new.past ≡ with_turn old.past old.came → new.came ≡ old.early → ((v : ℕ) → held_in new.early v ≡ None) → (v step : ℕ) → taken old.past + 1 < step → held new v step ≡ held old v step
held_later old new past came none v step later =
    ap₂ (λ (t : ℕ) (slots : List (Option Update)). cond (step == t + 1) (held_in slots v) (cond (step == t + 2) (held_in new.early v) None)) took came
    ∙ first (step == taken old.past + 1 + 1) refl (step == taken old.past + 1 + 2) (none v)
    ∙ sym (second (step == taken old.past + 1) refl)
  where
    took : taken new.past ≡ taken old.past + 1
    took = ap taken past ∙ turn_takes old.past (inputs_of old.came) ∙ (let e : suc (taken old.past) ≡ taken old.past + 1 = omega arith in e)

    same_test : (step == taken old.past + 1 + 1) ≡ (step == taken old.past + 2)
    same_test = ap (λ n. step == n) (let e : taken old.past + 1 + 1 ≡ taken old.past + 2 = omega arith in e)

    first : (b : Bool) → (step == taken old.past + 1 + 1) ≡ b → (behind : Bool) → held_in new.early v ≡ None → cond b (held_in old.early v) (cond behind (held_in new.early v) None) ≡ cond (step == taken old.past + 2) (held_in old.early v) None
    first true e behind empty = sym (ap (λ b. cond b (held_in old.early v) None) (sym same_test ∙ e))
    first false e true empty = empty ∙ sym (ap (λ b. cond b (held_in old.early v) None) (sym same_test ∙ e))
    first false e false empty = sym (ap (λ b. cond b (held_in old.early v) None) (sym same_test ∙ e))

    second : (b : Bool) → (step == taken old.past + 1) ≡ b → cond (step == taken old.past + 1) (held_in old.came v) (cond (step == taken old.past + 2) (held_in old.early v) None) ≡ cond (step == taken old.past + 2) (held_in old.early v) None
    second true e = let at : step ≡ taken old.past + 1 = eqb-true step (taken old.past + 1) e in absurd (omega (arith, at, later))
    second false e = ap (λ b. cond b (held_in old.came v) (cond (step == taken old.past + 2) (held_in old.early v) None)) e

-- a call that makes no stroke
pub crash_idle : {D : Type 0} (told : D → Told) (lawful : (d : D) → IsLawful (told d)) (a b : Server D) → a ≡ b → Stands (told a.journal.disk) a.journal.failed a.part a.past → CrashLeaves (told_by told b) (told_by told b) b.journal.failed b.part b.past (with_turn b.past b.came)
crash_idle {D = D} told lawful a b view_is stands =
    let P : Server D → Type 0 = λ s. CrashLeaves (told_by told s) (told_by told s) s.journal.failed s.part s.past (with_turn s.past s.came) in
    subst P view_is (crash_none (told a.journal.disk) a.journal.failed a.part a.past (with_turn a.past a.came) (lawful a.journal.disk) stands)

-- THE SERVER b, seen from its fields as a
module _ {D : Type 0} (told : D → Told) (lawful : (d : D) → IsLawful (told d)) (a b : Server D) (view_is : a ≡ b) (stands : Stands (told a.journal.disk) a.journal.failed a.part a.past) (can : CanTurn b) (may : MayTurn a.part a.past (inputs_of a.came)) (j' : Kept D) (body : List ℕ) (is : IsBodyOf (turn_record a.past a.came) body) (result : Result (Unit {0}) AppendFault) (said : Appended told a.journal j' body result) where
  can_inside : CanTurn a
  can_inside = let P : Server D → Type 0 = λ s. CanTurn s in subst P (sym view_is) can

  written : Written a.part a.past (with_turn a.past a.came) body
  written = record {
    entry = turn_record a.past a.came;
    read = is.read;
    spelled = is.spelled;
    follows = turn_follows a.part a.past a.came may;
    on = begins_turned a.past (inputs_of a.came);
  }

  pub crash_asked : CrashLeaves (told_by told b) (told j'.disk) b.journal.failed b.part b.past (with_turn b.past b.came)
  crash_asked =
      let P : Server D → Type 0 = λ s. CrashLeaves (told_by told s) (told j'.disk) s.journal.failed s.part s.past (with_turn s.past s.came) in
      subst P view_is (crash_append told lawful a.journal j' body result a.part a.past (with_turn a.past a.came) stands written said)

  pub stands_added : result ≡ Ok tt → Stands (told j'.disk) j'.failed a.part (with_turn a.past a.came)
  stands_added done = stands_ok told lawful a.journal j' body result a.part a.past (with_turn a.past a.came) stands written said can_inside.healthy done

  pub stands_kept : (fault : AppendFault) → result ≡ Err fault → Stands (told j'.disk) j'.failed a.part a.past
  stands_kept fault err = stands_err told lawful a.journal j' body result a.part a.past (with_turn a.past a.came) stands written said can_inside.healthy fault err

  pub healthy_added : result ≡ Ok tt → j'.failed ≡ false
  healthy_added done = healthy_ok told lawful a.journal j' body result a.part a.past (with_turn a.past a.came) stands written said can_inside.healthy done

  pub placed_added : IsPlaced told a.journal a.part a.past → result ≡ Ok tt → IsPlaced told j' a.part (with_turn a.past a.came)
  placed_added placed done = placed_ok told lawful a.journal j' body result a.part a.past (with_turn a.past a.came) stands written said placed done

  pub placed_kept : IsPlaced told a.journal a.part a.past → (fault : AppendFault) → result ≡ Err fault → IsPlaced told j' a.part a.past
  placed_kept placed fault err = placed_err told lawful a.journal j' body result a.part a.past (with_turn a.past a.came) stands written said placed fault err

  pub place_added : result ≡ Ok tt → j'.place ≡ b.journal.place + frame_size (turn_record b.past b.came)
  place_added done =
      let P : Server D → Type 0 = λ s. j'.place ≡ s.journal.place + frame_size (turn_record s.past s.came) in
      subst P view_is (place_then told a.journal j' (turn_record a.past a.came) body is result said done)

  pub room_asked : UsesRoom (told_by told b) (told j'.disk) 2 (length (record_spelling (turn_record b.past b.came)) + 6)
  room_asked =
      let P : Server D → Type 0 = λ s. UsesRoom (told_by told s) (told j'.disk) 2 (length (record_spelling (turn_record s.past s.came)) + 6) in
      subst P view_is (room_used told a.journal j' (turn_record a.past a.came) body is result said)

  pub answer_added : (k : ℕ) → result ≡ Ok tt → k ≡ taken a.past + 1 → TurnAnswers b (Ok (Took k))
  answer_added k done step = let P : Server D → Type 0 = λ s. TurnAnswers s (Ok (Took k)) in subst P view_is (can_inside, said_ok told a.journal j' (turn_record a.past a.came) body is result said done, step)

  pub answer_refused : length body ≤ longest_turn → (fault : AppendFault) → result ≡ Err fault → TurnAnswers b (Err (untaken_by fault))
  answer_refused short fault err = let P : Server D → Type 0 = λ s. TurnAnswers s (Err (untaken_by fault)) in subst P view_is (go fault err)
    where
      go : (fault : AppendFault) → result ≡ Err fault → TurnAnswers a (Err (untaken_by fault))
      go appends.Reopen err = reopen_failed _ _ _ (said_err told a.journal j' (turn_record a.past a.came) body is result said appends.Reopen err (λ e. cc e) (λ e. cc e))
      go appends.TooLong err = absurd (never_said_long told a.journal j' (turn_record a.past a.came) body is result said err)
      go appends.Full err = (can_inside, said_err told a.journal j' (turn_record a.past a.came) body is result said appends.Full err (λ e. cc e) (λ e. cc e), subst (λ (bytes : List ℕ). length bytes ≤ longest_turn) is.spelled short)
      go appends.NoMemory err = tt
      go appends.DiskFailed err = (can_inside, said_disk told a.journal j' (turn_record a.past a.came) body is result said can_inside.healthy err)

  pub runs_added : (k : ℕ) → result ≡ Ok tt → RunsOn (told_by told b) (told j'.disk) (IsOk {E = TurnFault} (Ok (Took k))) (IsErrOf {T = Turn} (Ok (Took k)) turns.NoMemory) (IsErrOf {T = Turn} (Ok (Took k)) turns.DiskFailed)
  runs_added k done =
      let P : Server D → Type 0 = λ s. RunsOn (told_by told s) (told j'.disk) (IsOk {E = TurnFault} (Ok (Took k))) (IsErrOf {T = Turn} (Ok (Took k)) turns.NoMemory) (IsErrOf {T = Turn} (Ok (Took k)) turns.DiskFailed) in
      subst P view_is (runs_ok told a.journal j' body result said _ _ _ done (λ e. cc e) (λ e. cc e))

  pub runs_refused : (fault : AppendFault) → result ≡ Err fault → RunsOn (told_by told b) (told j'.disk) (IsOk {T = Turn} (Err (untaken_by fault))) (IsErrOf {T = Turn} (Err (untaken_by fault)) turns.NoMemory) (IsErrOf {T = Turn} (Err (untaken_by fault)) turns.DiskFailed)
  runs_refused fault err =
      let P : Server D → Type 0 = λ s. RunsOn (told_by told s) (told j'.disk) (IsOk {T = Turn} (Err (untaken_by fault))) (IsErrOf {T = Turn} (Err (untaken_by fault)) turns.NoMemory) (IsErrOf {T = Turn} (Err (untaken_by fault)) turns.DiskFailed) in
      subst P view_is (runs_err told a.journal j' body result said _ _ _ (λ e. cc e)
      (λ e. err ∙ ap (λ (f : AppendFault). Err f) (memory_only fault e))
      (λ e. err ∙ ap (λ (f : AppendFault). Err f) (disk_only fault e))
      (λ e. ap (λ (f : AppendFault). Err (untaken_by f)) (err_is (sym err ∙ e))))

  -- what an error tells
  module _ (fault : AppendFault) (err : result ≡ Err fault) (r : Result Turn TurnFault) (r_is : r ≡ Err (untaken_by fault)) where
    memory_asked : IsErrOf r turns.NoMemory → result ≡ Err appends.NoMemory
    memory_asked e = err ∙ ap (λ (f : AppendFault). Err f) (memory_only fault (sym r_is ∙ e))

    disk_asked : IsErrOf r turns.DiskFailed → result ≡ Err appends.DiskFailed
    disk_asked e = err ∙ ap (λ (f : AppendFault). Err f) (disk_only fault (sym r_is ∙ e))

    pub failed_memory : IsErrOf r turns.NoMemory → j'.failed ≡ false
    failed_memory e = said.not_failed (λ d. let no_both : ◌≡◌ {A = Result (Unit {0}) AppendFault} (Err appends.NoMemory) (Err appends.DiskFailed) = sym (memory_asked e) ∙ d in cc no_both) ∙ can_inside.healthy

    pub failed_disk : IsErrOf r turns.DiskFailed → j'.failed ≡ true
    failed_disk e = said.failed (disk_asked e)

    pub same_refused : (IsErrOf r turns.NoMemory → ⊥) → (IsErrOf r turns.DiskFailed → ⊥) → j' ≡ a.journal
    same_refused memory disk =
        unasked (refusal_of a.journal.failed a.journal.place (length body)) result a.journal j' fault said.refused said.other err
        (λ e. memory (r_is ∙ ap (λ (f : AppendFault). Err (untaken_by f)) e)) (λ e. disk (r_is ∙ ap (λ (f : AppendFault). Err (untaken_by f)) e))

    pub enough_asked : length body ≤ a.journal.room → (length body ≤ a.journal.room → (told a.journal.disk).has_room 2 (length body + 6) → IsErrOf result appends.NoMemory → ⊥) → (told_by told b).has_room 2 (length (record_spelling (turn_record b.past b.came)) + 6) → IsErrOf r turns.NoMemory → ⊥
    enough_asked fits enough room e = enough fits (subst (λ (bytes : List ℕ). (told a.journal.disk).has_room 2 (length bytes + 6)) (sym is.spelled) room_inside) (memory_asked e)
      where
        room_inside : (told a.journal.disk).has_room 2 (length (record_spelling (turn_record a.past a.came)) + 6)
        room_inside = let P : Server D → Type 0 = λ s. (told_by told s).has_room 2 (length (record_spelling (turn_record s.past s.came)) + 6) in subst P (sym view_is) room

    pub answer_err : length body ≤ longest_turn → TurnAnswers b r
    answer_err short = subst (TurnAnswers b) (sym r_is) (answer_refused short fault err)

    pub runs_of_err : RunsOn (told_by told b) (told j'.disk) (IsOk r) (IsErrOf r turns.NoMemory) (IsErrOf r turns.DiskFailed)
    runs_of_err = let P : Result Turn TurnFault → Type 0 = λ x. RunsOn (told_by told b) (told j'.disk) (IsOk x) (IsErrOf x turns.NoMemory) (IsErrOf x turns.DiskFailed) in subst P (sym r_is) (runs_refused fault err)
