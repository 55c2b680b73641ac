-- What an answer of a server says of the item, and why a unit stops after one.
use Rattle.std.proofs.Common.{◌≡◌, ℕ, suc, ◌+◌, ◌<◌, true, false, [], ◌∷◌, length, get_or, Some, option_map, slice_get, Result, Ok, Err, refl, sym, ap, ap₂, ◌∙◌, subst, arith}
use Rattle.std.specs.Prelude.{◌==◌, IfOk, IfErr, IsErr, IsErrOf}
use Rattle.std.proofs.lemmas.List.Quantifiers.{position-Some}
use Rattle.std.proofs.lemmas.Option.{slice_get-get_or}
use Rattle.std.proofs.lemmas.Map.Views.{exact_unsigned_eq}
use Rattle.wf_model.specs.declared.outer.Outer.{Outer}
use Rattle.wf_disk.specs.Disk.{Told, HasCause}
use Rattle.wf_histories.specs.Histories.{Admission, History}
use Rattle.wf_worlds.specs.Ends.{IsShort}
use Rattle.wf_projection.specs.Merged.{numbered}
use Rattle.wf_exchange.specs.declared.lines.LineItem.{LineItem}
use Rattle.wf_server.specs.declared.fault.Admitted.{Admitted}
use Rattle.wf_server.specs.declared.fault.Admitted.TheVariants.{New, Again}
use Rattle.wf_server.specs.declared.fault.AdmitFault.{AdmitFault}
use Rattle.wf_server.specs.declared.fault.AdmitFault.TheVariants as admits
use Rattle.wf_server.specs.Answers.{AdmitAnswers, IsNew, IsNumber, IsAsked}
use Rattle.wf_server.specs.Servers.{Server, told_by, admission, with_admission, admit_record}
use Rattle.wf_actors.specs.declared.desk.Answer.{Answer}
use Rattle.wf_actors.specs.declared.desk.Answer.TheVariants as answers
use Rattle.wf_actors.specs.Stops.{IsStopOf}
use Rattle.wf_actors.specs.Answering.{asked_by, said_by, IsSaid, IsAnswer, if_new}
use Rattle.wf_actors.proofs.Answered.{new_none, new_one, last_numbered}
use Rattle.wf_actors.proofs.Beginnings.{begins_same, begins_admitted}
use Rattle.wf_codec.specs.Records.{record_spelling}
use Rattle.wf_actors.proofs.Full.{full_behind, admit_length}

-- an admission by its number: its request and its outer
number_is : (past : History) (request n : ℕ) (outer : Outer) → IsNumber past request n outer → numbered past.admissions n ≡ Some (admission request outer)
number_is past request n outer (place, is_n, is_place, is_outer) =
    ap (numbered past.admissions) up ∙ at_place ∙ ap Some (ap₂ admission same_request same_outer)
  where
    up : n ≡ suc place
    up = omega (arith, is_n)

    found : Admission
    found = get_or past.admissions place (admission request outer)

    first : (place < length past.admissions) × ((found.request == request) ≡ true) × ((k : ℕ) → k < place → ((get_or past.admissions k (admission request outer)).request == request) ≡ false)
    first = position-Some (λ a. a.request == request) past.admissions place (admission request outer) is_place

    at_place : slice_get past.admissions place ≡ Some found
    at_place = slice_get-get_or past.admissions place (admission request outer) first.0

    same_request : found.request ≡ request
    same_request = exact_unsigned_eq found.request request first.1

    same_outer : found.outer ≡ outer
    same_outer = let e = sym (ap (option_map (λ (a : Admission). a.outer)) at_place) ∙ is_outer in cc e

module _ {D : Type 0} (old new : Server D) (item : LineItem) where
  same_said : new.past ≡ old.past → (answer : Answer) → if_new (item, answer) ≡ [] → IsAnswer old.past item answer → IsSaid old.past new.past item answer
  same_said past answer none right =
      subst (λ h. IsSaid old.past h item answer) (sym past) (record { begins = begins_same old.past; made = new_none old.past ∙ sym none; right = right })

  new_said : (n : ℕ) → new.past ≡ with_admission old.past item.request item.outer → n ≡ length old.past.admissions + 1 → IsSaid old.past new.past item (answers.New n)
  new_said n past is =
      subst (λ h. IsSaid old.past h item (answers.New n)) (sym past)
      (record {
        begins = begins_admitted old.past (asked_by item);
        made = new_one old.past (asked_by item) ∙ ap (λ k. (k, asked_by item) ∷ []) (sym is);
        right = last_numbered old.past (asked_by item) n is;
      })

  journal_past : new ≡ record old { journal = new.journal } → new.past ≡ old.past
  journal_past e = ap (λ (s : Server D). s.past) e

  pub said_is : (r : Result Admitted AdmitFault) → AdmitAnswers old item.request item.outer r
      → (IsNew r → new ≡ record old { journal = new.journal; past = with_admission old.past item.request item.outer; ready = false })
      → ((IsNew r → ⊥) → new ≡ record old { journal = new.journal }) → IfOk (said_by r) (IsSaid old.past new.past item)
  said_is (Ok (New n)) answer fresh old_one = new_said n (ap (λ (s : Server D). s.past) (fresh tt)) answer.2
  said_is (Ok (Again n)) answer fresh old_one =
      same_said (journal_past (old_one (λ no. no))) (answers.Again n) refl (number_is old.past item.request n item.outer answer.1)
  said_is (Err (admits.RequestReused n kept)) answer fresh old_one =
      same_said (journal_past (old_one (λ no. no))) (answers.Reused n) refl
      (admission item.request kept, number_is old.past item.request n kept answer.1, refl, (λ e. answer.2 (ap (λ (a : Admission). a.outer) e)))
  said_is (Err admits.WrongUnit) answer fresh old_one = same_said (journal_past (old_one (λ no. no))) answers.Refused refl tt
  said_is (Err admits.NoItem) answer fresh old_one = same_said (journal_past (old_one (λ no. no))) answers.Refused refl tt
  said_is (Err admits.AlreadyDone) answer fresh old_one = same_said (journal_past (old_one (λ no. no))) answers.Refused refl tt
  said_is (Err admits.WrongOutput) answer fresh old_one = same_said (journal_past (old_one (λ no. no))) answers.Refused refl tt
  said_is (Err admits.JournalFull) answer fresh old_one = tt
  said_is (Err admits.NoMemory) answer fresh old_one = tt
  said_is (Err admits.DiskFailed) answer fresh old_one = tt
  said_is (Err admits.Reopen) answer fresh old_one = tt

  -- where the unit stops nothing came in
  pub none_said : (r : Result Admitted AdmitFault) → ((IsNew r → ⊥) → new ≡ record old { journal = new.journal }) → IsErr (said_by r) → new.past ≡ old.past
  none_said (Ok (New n)) old_one err = absurd (cc err)
  none_said (Ok (Again n)) old_one err = journal_past (old_one (λ no. no))
  none_said (Err fault) old_one err = journal_past (old_one (λ no. no))

module _ {D : Type 0} (told : D → Told) (old new : Server D) (request : ℕ) (outer : Outer) (working : old.journal.failed ≡ false) where
  pub admit_stop : (r : Result Admitted AdmitFault) → AdmitAnswers old request outer r → (IsAsked r → IsShort outer) → (IsErr r → new.journal.place ≡ old.journal.place)
      → HasCause (told_by told old) (told_by told new) (IsErrOf r admits.DiskFailed) → IfErr (said_by r) (IsStopOf told old new)
  admit_stop (Ok (New n)) answer short place cause = tt
  admit_stop (Ok (Again n)) answer short place cause = tt
  admit_stop (Err (admits.RequestReused n kept)) answer short place cause = tt
  admit_stop (Err admits.WrongUnit) answer short place cause = tt
  admit_stop (Err admits.NoItem) answer short place cause = tt
  admit_stop (Err admits.AlreadyDone) answer short place cause = tt
  admit_stop (Err admits.WrongOutput) answer short place cause = tt
  admit_stop (Err admits.JournalFull) answer short place cause =
      let full = full_behind old.journal.failed old.journal.place (length (record_spelling (admit_record request outer))) (admit_length request outer (short tt)) answer.1 in
      let same = place refl in
      omega (arith, full, same)
  admit_stop (Err admits.NoMemory) answer short place cause = tt
  admit_stop (Err admits.DiskFailed) answer short place cause = cause.rose refl
  admit_stop (Err admits.Reopen) answer short place cause = absurd (cc (sym answer ∙ working))
