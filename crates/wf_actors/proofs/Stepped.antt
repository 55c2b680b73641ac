-- How a step ends that isn't taken.
use Rattle.std.proofs.Common.{◌≡◌, ◌≢◌, true, false, Result, Ok, Err, length, refl, sym, ap, ◌∙◌, subst, arith}
use Rattle.std.specs.Prelude.{IfErr, IsErrOf}
use Rattle.wf_disk.specs.Disk.{Told, HasCause}
use Rattle.wf_codec.specs.Records.{record_spelling}
use Rattle.wf_histories.specs.Histories.{taken}
use Rattle.wf_server.specs.declared.fault.Turn.{Turn}
use Rattle.wf_server.specs.declared.fault.TurnFault.{TurnFault}
use Rattle.wf_server.specs.declared.fault.TurnFault.TheVariants as turns
use Rattle.wf_model.specs.declared.update.UnitSet.{UnitSet}
use Rattle.wf_server.specs.Inbox.{AreMissing}
use Rattle.wf_server.specs.Answers.{TurnAnswers}
use Rattle.wf_server.specs.Servers.{Server, told_by, turn_record}
use Rattle.wf_actors.specs.declared.stop.Stop.TheVariants as stops
use Rattle.wf_actors.specs.Stops.{IsStopOf, outcome_by}
use Rattle.wf_actors.proofs.Full.{full_behind}

abbrev failed_by : TurnFault → Result Turn TurnFault
failed_by fault = Err fault

-- no step is taken
pub never_taken : (fault : TurnFault) → outcome_by fault ≡ Ok true → ⊥
never_taken turns.JournalFull e = absurd (cc e)
never_taken turns.StepLimit e = absurd (cc e)
never_taken turns.NoMemory e = absurd (cc e)
never_taken turns.DiskFailed e = absurd (cc e)
never_taken turns.Reopen e = absurd (cc e)
never_taken (turns.Waiting absent) e = absurd (cc e)

-- an update that is waited for is missing
pub missing_for : {D : Type 0} (old : Server D) (fault : TurnFault) → TurnAnswers old (failed_by fault) → (absent : UnitSet) → fault ≡ turns.Waiting absent → AreMissing old.part old.came absent.0 × (absent.0 ≢ 0)
missing_for old fault answer absent is = rest (subst (λ f. TurnAnswers old (failed_by f)) is answer)
  where
    rest : TurnAnswers old (failed_by (turns.Waiting absent)) → AreMissing old.part old.came absent.0 × (absent.0 ≢ 0)
    rest (working, missing, some) = (missing, some)

module _ {D : Type 0} (told : D → Told) (old new : Server D) (working : old.journal.failed ≡ false) where
  -- if the unit stops, it has a cause
  pub turn_stop : (fault : TurnFault) → TurnAnswers old (failed_by fault) → new ≡ record old { journal = new.journal; ready = new.ready }
      → new.journal.place ≡ old.journal.place → HasCause (told_by told old) (told_by told new) (IsErrOf (failed_by fault) turns.DiskFailed) → IfErr (outcome_by fault) (IsStopOf told old new)
  turn_stop turns.JournalFull answer kept place cause =
      let full = full_behind old.journal.failed old.journal.place (length (record_spelling (turn_record old.past old.came))) answer.2 answer.1 in
      omega (arith, full, place)
  turn_stop turns.StepLimit answer kept place cause = ap (λ (s : Server D). taken s.past) kept ∙ answer.2
  turn_stop turns.NoMemory answer kept place cause = tt
  turn_stop turns.DiskFailed answer kept place cause = cause.rose refl
  turn_stop turns.Reopen answer kept place cause = absurd (cc (sym answer ∙ working))
  turn_stop (turns.Waiting absent) answer kept place cause = tt

  pub still_works : (fault : TurnFault) → ((IsErrOf (failed_by fault) turns.DiskFailed → ⊥) → new.journal.failed ≡ false) → TurnAnswers old (failed_by fault)
      → (outcome_by fault ≡ Err stops.DiskFailed → ⊥) → new.journal.failed ≡ false
  still_works turns.DiskFailed works answer unlike = absurd (unlike refl)
  still_works turns.Reopen works answer unlike = absurd (unlike refl)
  still_works (turns.Waiting absent) works answer unlike = works (λ e. absurd (cc e))
  still_works turns.JournalFull works answer unlike = works (λ e. absurd (cc e))
  still_works turns.StepLimit works answer unlike = works (λ e. absurd (cc e))
  still_works turns.NoMemory works answer unlike = works (λ e. absurd (cc e))
