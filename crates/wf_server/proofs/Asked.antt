-- What a journal said to a record, by its answer to the record's body; where its gate stands then, and what of the disk's room is gone.
use Rattle.std.proofs.Common.{◌≡◌, ℕ, ◌+◌, ◌≤◌, Bool, true, false, List, length, Option, Some, None, refl, sym, ap, ◌∙◌, subst}
use Rattle.std.specs.Prelude.{Result, Ok, Err, OnOk}
use Rattle.wf_disk.specs.Disk.{Told}
use Rattle.wf_journal.specs.Faults.{refusal_of}
use Rattle.wf_journal.specs.Frames.{header}
use Rattle.wf_journal.specs.Room.{UsesRoom}
use Rattle.wf_journal.specs.State.{Kept}
use Rattle.wf_journal.specs.declared.fault.AppendFault.{AppendFault}
use Rattle.wf_journal.specs.declared.fault.AppendFault.TheVariants as appends
use Rattle.wf_journal.proofs.Answered.{not_refused}
use Rattle.wf_codec.specs.declared.record.JournalRecord.{JournalRecord}
use Rattle.wf_codec.specs.Records.{record_spelling}
use Rattle.wf_codec.specs.Bodies.{IsBodyOf}
use Rattle.wf_worlds.specs.Ends.{frame_size}
use Rattle.wf_server.proofs.Standing.{Appended}
use Rattle.wf_server.proofs.Runs.{refusal_by, asked_by, never_long}

module _ {D : Type 0} (told : D → Told) (j j' : Kept D) (entry : JournalRecord) (body : List ℕ) (is : IsBodyOf entry body) (result : Result (Unit {0}) AppendFault) (said : Appended told j j' body result) where
  spelled : refusal_of j.failed j.place (length (record_spelling entry)) ≡ refusal_of j.failed j.place (length body)
  spelled = sym (ap (λ (b : List ℕ). refusal_of j.failed j.place (length b)) is.spelled)

  pub said_ok : result ≡ Ok tt → refusal_of j.failed j.place (length (record_spelling entry)) ≡ None
  said_ok done = spelled ∙ not_refused (refusal_of j.failed j.place (length body)) result j j' said.refused done

  pub said_err : (fault : AppendFault) → result ≡ Err fault → (fault ≡ appends.NoMemory → ⊥) → (fault ≡ appends.DiskFailed → ⊥) → refusal_of j.failed j.place (length (record_spelling entry)) ≡ Some fault
  said_err fault err memory disk = spelled ∙ refusal_by (refusal_of j.failed j.place (length body)) result (j' ≡ j) fault said.refused said.other err memory disk

  pub said_disk : j.failed ≡ false → result ≡ Err appends.DiskFailed → refusal_of j.failed j.place (length (record_spelling entry)) ≡ None
  said_disk healthy err = spelled ∙ asked_by (refusal_of j.failed j.place (length body)) j'.failed j.failed result (j' ≡ j) (λ (same : j' ≡ j). ap (λ (k : Kept D). k.failed) same) healthy (said.failed err) said.refused

  pub never_said_long : result ≡ Err appends.TooLong → ⊥
  never_said_long err = never_long j.failed j.place (length body) is.some is.most (refusal_by (refusal_of j.failed j.place (length body)) result (j' ≡ j) appends.TooLong said.refused said.other err (λ e. cc e) (λ e. cc e))

  -- its gate stands behind the record
  pub place_then : result ≡ Ok tt → j'.place ≡ j.place + frame_size entry
  place_then done =
      let P : Result (Unit {0}) AppendFault → Type 0 = λ r. OnOk r (j'.place ≡ j.place + (header + length body)) in
      subst P done said.place ∙ ap (λ (b : List ℕ). j.place + (header + length b)) is.spelled

  pub room_used : UsesRoom (told j.disk) (told j'.disk) 2 (length (record_spelling entry) + 6)
  room_used = subst (λ (b : List ℕ). UsesRoom (told j.disk) (told j'.disk) 2 (length b + 6)) is.spelled said.disk_room
