-- How `admit` and `turn` end, by what they answer.
use Rattle.std.proofs.Common.{◌≡◌, ◌+◌, ◌≤◌, true, false, List, Option, Result, Ok, Err, refl, sym, ap, ◌∙◌, subst}
use Rattle.std.specs.Prelude.{IfOk, OnOk, IsOk, IsErr, IsErrOf}
use Rattle.wf_disk.specs.Disk.{Told}
use Rattle.wf_model.specs.declared.update.Update.{Update}
use Rattle.wf_histories.specs.Histories.{History}
use Rattle.wf_server.specs.declared.fault.Admitted.{Admitted}
use Rattle.wf_server.specs.declared.fault.Admitted.TheVariants.{New, Again}
use Rattle.wf_server.specs.declared.fault.AdmitFault.{AdmitFault}
use Rattle.wf_server.specs.declared.fault.AdmitFault.TheVariants as admits
use Rattle.wf_server.specs.declared.fault.Turn.{Turn}
use Rattle.wf_server.specs.declared.fault.TurnFault.{TurnFault}
use Rattle.wf_server.specs.declared.fault.TurnFault.TheVariants as turns
use Rattle.wf_server.specs.Answers.{IsNew}
use Rattle.wf_server.specs.Servers.{Server, told_by}
use Rattle.wf_actors.proofs.Keepings.{Outcome, unchanged, added, ran_out, broke}

module _ {D : Type 0} (told : D → Told) (old new : Server D) (next : History) (working : old.journal.failed ≡ false) where
  same : new ≡ old → Outcome told old new next
  same e =
      unchanged (ap (λ (s : Server D). s.part) e) (ap (λ (s : Server D). s.journal.disk) e) (ap (λ (s : Server D). s.past) e) (ap (λ (s : Server D). s.journal.failed) e)

  journal_part : new ≡ record old { journal = new.journal } → new.part ≡ old.part
  journal_part e = ap (λ (s : Server D). s.part) e

  journal_past : new ≡ record old { journal = new.journal } → new.past ≡ old.past
  journal_past e = ap (λ (s : Server D). s.past) e

  pub admit_outcome : (r : Result Admitted AdmitFault)
      → (IsNew r → new ≡ record old { journal = new.journal; past = next; ready = false })
      → IfOk r (λ _. (IsNew r → ⊥) → new ≡ old)
      → (IsErr r → new ≡ record old { journal = new.journal })
      → (IsErr r → (IsErrOf r admits.NoMemory → ⊥) → (IsErrOf r admits.DiskFailed → ⊥) → new ≡ old)
      → (IsOk r → new.journal.failed ≡ false)
      → (IsErrOf r admits.NoMemory → new.journal.failed ≡ old.journal.failed)
      → (IsErrOf r admits.DiskFailed → new.journal.failed ≡ true)
      → (IsErrOf r admits.NoMemory → (told_by told new).clock ≤ (told_by told old).clock + 2)
      → Outcome told old new next
  admit_outcome (Ok (New n)) fresh again kept refused healthy no_memory failed two =
      let e = fresh tt in added (ap (λ (s : Server D). s.part) e) (ap (λ (s : Server D). s.past) e) (healthy refl)
  admit_outcome (Ok (Again n)) fresh again kept refused healthy no_memory failed two = same (again (λ e. e))
  admit_outcome (Err admits.NoMemory) fresh again kept refused healthy no_memory failed two =
      ran_out (journal_part (kept refl)) (journal_past (kept refl)) (no_memory refl ∙ working) (two refl)
  admit_outcome (Err admits.DiskFailed) fresh again kept refused healthy no_memory failed two =
      broke (journal_part (kept refl)) (journal_past (kept refl)) (failed refl)
  admit_outcome (Err admits.Reopen) fresh again kept refused healthy no_memory failed two = same (refused refl (λ e. absurd (cc e)) (λ e. absurd (cc e)))
  admit_outcome (Err (admits.RequestReused n outer)) fresh again kept refused healthy no_memory failed two = same (refused refl (λ e. absurd (cc e)) (λ e. absurd (cc e)))
  admit_outcome (Err admits.WrongUnit) fresh again kept refused healthy no_memory failed two = same (refused refl (λ e. absurd (cc e)) (λ e. absurd (cc e)))
  admit_outcome (Err admits.NoItem) fresh again kept refused healthy no_memory failed two = same (refused refl (λ e. absurd (cc e)) (λ e. absurd (cc e)))
  admit_outcome (Err admits.AlreadyDone) fresh again kept refused healthy no_memory failed two = same (refused refl (λ e. absurd (cc e)) (λ e. absurd (cc e)))
  admit_outcome (Err admits.WrongOutput) fresh again kept refused healthy no_memory failed two = same (refused refl (λ e. absurd (cc e)) (λ e. absurd (cc e)))
  admit_outcome (Err admits.JournalFull) fresh again kept refused healthy no_memory failed two = same (refused refl (λ e. absurd (cc e)) (λ e. absurd (cc e)))

  ready_part : new ≡ record old { journal = new.journal; ready = new.ready } → new.part ≡ old.part
  ready_part e = ap (λ (s : Server D). s.part) e

  ready_past : new ≡ record old { journal = new.journal; ready = new.ready } → new.past ≡ old.past
  ready_past e = ap (λ (s : Server D). s.past) e

  as_before : new ≡ record old { journal = record old.journal { room = new.journal.room }; ready = new.ready } → Outcome told old new next
  as_before e =
      unchanged (ap (λ (s : Server D). s.part) e) (ap (λ (s : Server D). s.journal.disk) e) (ap (λ (s : Server D). s.past) e) (ap (λ (s : Server D). s.journal.failed) e)

  pub turn_outcome : (early : List (Option Update)) (r : Result Turn TurnFault)
      → OnOk r (new ≡ record old { journal = new.journal; past = next; came = old.early; early = early; ready = false })
      → (IsErr r → new ≡ record old { journal = new.journal; ready = new.ready })
      → (IsErr r → (IsErrOf r turns.NoMemory → ⊥) → (IsErrOf r turns.DiskFailed → ⊥) → new ≡ record old { journal = record old.journal { room = new.journal.room }; ready = new.ready })
      → (IsOk r → new.journal.failed ≡ false)
      → (IsErrOf r turns.NoMemory → new.journal.failed ≡ old.journal.failed)
      → (IsErrOf r turns.DiskFailed → new.journal.failed ≡ true)
      → (IsErrOf r turns.NoMemory → (told_by told new).clock ≤ (told_by told old).clock + 2)
      → Outcome told old new next
  turn_outcome early (Ok turn) took kept refused healthy no_memory failed two = added (ap (λ (s : Server D). s.part) took) (ap (λ (s : Server D). s.past) took) (healthy refl)
  turn_outcome early (Err turns.NoMemory) took kept refused healthy no_memory failed two =
      ran_out (ready_part (kept refl)) (ready_past (kept refl)) (no_memory refl ∙ working) (two refl)
  turn_outcome early (Err turns.DiskFailed) took kept refused healthy no_memory failed two =
      broke (ready_part (kept refl)) (ready_past (kept refl)) (failed refl)
  turn_outcome early (Err turns.Reopen) took kept refused healthy no_memory failed two = as_before (refused refl (λ e. absurd (cc e)) (λ e. absurd (cc e)))
  turn_outcome early (Err (turns.Waiting set)) took kept refused healthy no_memory failed two = as_before (refused refl (λ e. absurd (cc e)) (λ e. absurd (cc e)))
  turn_outcome early (Err turns.StepLimit) took kept refused healthy no_memory failed two = as_before (refused refl (λ e. absurd (cc e)) (λ e. absurd (cc e)))
  turn_outcome early (Err turns.JournalFull) took kept refused healthy no_memory failed two = as_before (refused refl (λ e. absurd (cc e)) (λ e. absurd (cc e)))

  -- an error that isn't of the disk, or an Ok, leaves a disk of which no call failed

  pub admit_works : (r : Result Admitted AdmitFault)
      → (IsOk r → new.journal.failed ≡ false)
      → (IsErr r → (IsErrOf r admits.NoMemory → ⊥) → (IsErrOf r admits.DiskFailed → ⊥) → new ≡ old)
      → (IsErrOf r admits.NoMemory → new.journal.failed ≡ old.journal.failed)
      → (IsErrOf r admits.DiskFailed → ⊥) → new.journal.failed ≡ false
  admit_works (Ok n) healthy refused no_memory unlike = healthy refl
  admit_works (Err admits.NoMemory) healthy refused no_memory unlike = no_memory refl ∙ working
  admit_works (Err admits.DiskFailed) healthy refused no_memory unlike = absurd (unlike refl)
  admit_works (Err admits.Reopen) healthy refused no_memory unlike = ap (λ (s : Server D). s.journal.failed) (refused refl (λ e. absurd (cc e)) unlike) ∙ working
  admit_works (Err (admits.RequestReused n outer)) healthy refused no_memory unlike = ap (λ (s : Server D). s.journal.failed) (refused refl (λ e. absurd (cc e)) unlike) ∙ working
  admit_works (Err admits.WrongUnit) healthy refused no_memory unlike = ap (λ (s : Server D). s.journal.failed) (refused refl (λ e. absurd (cc e)) unlike) ∙ working
  admit_works (Err admits.NoItem) healthy refused no_memory unlike = ap (λ (s : Server D). s.journal.failed) (refused refl (λ e. absurd (cc e)) unlike) ∙ working
  admit_works (Err admits.AlreadyDone) healthy refused no_memory unlike = ap (λ (s : Server D). s.journal.failed) (refused refl (λ e. absurd (cc e)) unlike) ∙ working
  admit_works (Err admits.WrongOutput) healthy refused no_memory unlike = ap (λ (s : Server D). s.journal.failed) (refused refl (λ e. absurd (cc e)) unlike) ∙ working
  admit_works (Err admits.JournalFull) healthy refused no_memory unlike = ap (λ (s : Server D). s.journal.failed) (refused refl (λ e. absurd (cc e)) unlike) ∙ working

  pub turn_works : (r : Result Turn TurnFault)
      → (IsOk r → new.journal.failed ≡ false)
      → (IsErr r → (IsErrOf r turns.NoMemory → ⊥) → (IsErrOf r turns.DiskFailed → ⊥) → new ≡ record old { journal = record old.journal { room = new.journal.room }; ready = new.ready })
      → (IsErrOf r turns.NoMemory → new.journal.failed ≡ old.journal.failed)
      → (IsErrOf r turns.DiskFailed → ⊥) → new.journal.failed ≡ false
  turn_works (Ok turn) healthy refused no_memory unlike = healthy refl
  turn_works (Err turns.NoMemory) healthy refused no_memory unlike = no_memory refl ∙ working
  turn_works (Err turns.DiskFailed) healthy refused no_memory unlike = absurd (unlike refl)
  turn_works (Err turns.Reopen) healthy refused no_memory unlike = ap (λ (s : Server D). s.journal.failed) (refused refl (λ e. absurd (cc e)) unlike) ∙ working
  turn_works (Err (turns.Waiting set)) healthy refused no_memory unlike = ap (λ (s : Server D). s.journal.failed) (refused refl (λ e. absurd (cc e)) unlike) ∙ working
  turn_works (Err turns.StepLimit) healthy refused no_memory unlike = ap (λ (s : Server D). s.journal.failed) (refused refl (λ e. absurd (cc e)) unlike) ∙ working
  turn_works (Err turns.JournalFull) healthy refused no_memory unlike = ap (λ (s : Server D). s.journal.failed) (refused refl (λ e. absurd (cc e)) unlike) ∙ working

module _ {D : Type 0} (old new : Server D) where
  as_it_was : new ≡ old → new ≡ record old { journal = new.journal }
  as_it_was e = subst (λ (s : Server D). s ≡ record old { journal = s.journal }) (sym e) refl

  -- all but a new admission leaves it as before, but for the journal
  pub not_new : (r : Result Admitted AdmitFault) → IfOk r (λ _. (IsNew r → ⊥) → new ≡ old) → (IsErr r → new ≡ record old { journal = new.journal }) → (IsNew r → ⊥) → new ≡ record old { journal = new.journal }
  not_new (Ok n) again kept unlike = as_it_was (again unlike)
  not_new (Err fault) again kept unlike = kept refl
