-- What stands on a disk after an append, by what the append answered; and what a crash in it leaves.
use Rattle.std.proofs.Common.{◌≡◌, ℕ, ◌+◌, ◌<◌, ◌≤◌, Bool, true, false, true≢false, List, [], ◌∷◌, ◌++◌, length, Option, Some, None, refl, sym, ap, ◌∙◌, subst, inl, inr, append-nil, arith}
use Rattle.std.specs.Prelude.{◌⊎◌, is_some, Result, Ok, Err, IfSome, IsNone, IfErr, OnOk, IsErr, IsErrOf}
use Rattle.wf_disk.specs.Disk.{Told, Only, LeavesOnly, IsLawful, IsSafeFor, HasCause}
use Rattle.wf_disk.proofs.Runs.{weaker, started}
use Rattle.wf_journal.specs.Frames.{header, bodies_of, can_start, IsAsBefore, IsBeforeOrAfter}
use Rattle.wf_journal.specs.Journal.{IsLeft}
use Rattle.wf_journal.specs.Append.{LeavesBeforeOrAfter, LeavesBefore}
use Rattle.wf_journal.specs.Plan.{MeetsPlan}
use Rattle.wf_journal.specs.Room.{UsesRoom}
use Rattle.wf_journal.specs.Faults.{refusal_of}
use Rattle.wf_journal.specs.State.{Kept}
use Rattle.wf_journal.specs.declared.fault.AppendFault.{AppendFault}
use Rattle.wf_journal.specs.declared.fault.AppendFault.TheVariants as appends
use Rattle.wf_journal.proofs.Answered.{unasked}
use Rattle.wf_codec.specs.declared.record.JournalRecord.{JournalRecord}
use Rattle.wf_codec.specs.Records.{record_of, record_spelling}
use Rattle.wf_parts.specs.declared.data.PartData.{PartData}
use Rattle.wf_histories.specs.Histories.{History}
use Rattle.wf_steps.specs.declared.fault.RecoverFault.{RecoverFault}
use Rattle.wf_steps.specs.Records.{after, history_of}
use Rattle.wf_worlds.specs.Ends.{end_of_history}
use Rattle.wf_steps.proofs.Ends.{end_grows}
use Rattle.wf_server.specs.Images.{Begins, Holds, HoldsEither, HoldsOn, IsOnly, Stands, IsPlaced, CrashLeaves}
use Rattle.wf_server.proofs.Reading.{can_start_whole, image_more, image_same}
use Rattle.wf_server.proofs.Beginnings.{begins_same}

-- a body that may come behind this history, and the history that it makes
pub record Written (part : PartData) (past next : History) (body : List ℕ) : Type 0 where
  pub entry : JournalRecord
  pub read : record_of body ≡ Some entry
  pub follows : after part past entry ≡ Some next
  pub spelled : body ≡ record_spelling entry
  pub on : Begins past next

-- what an append says
pub record Appended {D : Type 0} (told : D → Told) (j j' : Kept D) (body : List ℕ) (result : Result (Unit {0}) AppendFault) : Type 0 where
  pub refused : IfSome (refusal_of j.failed j.place (length body)) (λ fault. (result ≡ Err fault) × (j' ≡ j))
  pub other : IsNone (refusal_of j.failed j.place (length body)) → IfErr result (λ fault. (fault ≡ appends.NoMemory) ⊎ (fault ≡ appends.DiskFailed))
  pub ok : OnOk result (IsLeft (told j.disk) (told j'.disk) j'.place (body ∷ []))
  pub no_memory : IsErrOf result appends.NoMemory → IsLeft (told j.disk) (told j'.disk) j'.place []
  pub place : OnOk result (j'.place ≡ j.place + (header + length body))
  pub place_kept : IsErr result → j'.place ≡ j.place
  pub failed : IsErrOf result appends.DiskFailed → j'.failed ≡ true
  pub not_failed : (IsErrOf result appends.DiskFailed → ⊥) → j'.failed ≡ j.failed
  pub tells : is_some (told j'.disk).image ≡ is_some (told j.disk).image
  pub any_moment : j.failed ≡ false → LeavesBeforeOrAfter (told j.disk) (told j'.disk) body
  pub fewer : j.failed ≡ false → (told j'.disk).clock < (told j.disk).clock + 3 → LeavesBefore (told j.disk) (told j'.disk)
  pub four : OnOk result ((told j'.disk).clock ≡ (told j.disk).clock + 4)
  pub two : IsErrOf result appends.NoMemory → (told j'.disk).clock ≤ (told j.disk).clock + 2
  pub plan : MeetsPlan (told j.disk) (told j'.disk) 4 (IsErrOf result appends.DiskFailed)
  pub safe : IsSafeFor (told j.disk) 4 → IsErrOf result appends.DiskFailed → ⊥
  pub cause : HasCause (told j.disk) (told j'.disk) (IsErrOf result appends.DiskFailed)
  pub disk_room : UsesRoom (told j.disk) (told j'.disk) 2 (length body + 6)

-- WHAT IMAGES HOLD

pub holds_on : (part : PartData) (past h : History) (c : List ℕ) → Holds part h c → Begins past h → HoldsOn part past c
holds_on part past h c is on = (h, is, on)

pub told_before : (a b : Option (List ℕ)) (x : List ℕ) → is_some a ≡ is_some b → a ≡ Some x → (y : List ℕ) × (b ≡ Some y)
told_before a None x same is = absurd (true≢false (sym (ap is_some is) ∙ same))
told_before a (Some y) x same is = (y, refl)

err_is_err : (r : Result (Unit {0}) AppendFault) (fault : AppendFault) → r ≡ Err fault → IsErr r
err_is_err (Ok u) fault is = absurd (cc is)
err_is_err (Err other) fault is = refl

pub some_is : {x y : List ℕ} → ◌≡◌ {A = Option (List ℕ)} (Some x) (Some y) → x ≡ y
some_is e = cc

module _ (d0 d1 : Told) (part : PartData) (past : History) (stands : Stands d0 false part past) (tells : is_some d1.image ≡ is_some d0.image) where
  -- it was added, or nothing was
  stands_left : (next : History) (place : ℕ) (more : List (List ℕ)) → IsLeft d0 d1 place more → ((file c : List ℕ) → Holds part past file → bodies_of c ≡ bodies_of file ++ more → can_start c ≡ true → Holds part next c) → Stands d1 false part next
  stands_left next place more left image = record {
    exact = λ _ file is. only file is;
    stays = λ file is c may. let o = only file is in holds_on part next next c (subst (Holds part next) (sym (o.only c may)) o.image) (begins_same next);
  }
    where
      only : (file : List ℕ) → d1.image ≡ Some file → IsOnly d1 part next file
      only file is =
          let old = told_before d1.image d0.image file tells is in
          let new = left old.0 old.1 in
          let same : new.0 ≡ file = some_is (sym new.1.image ∙ is) in
          let i : Holds part next new.0 = image old.0 new.0 (stands.exact refl old.0 old.1).image new.1.bodies (can_start_whole new.0 new.1.settled.rests.whole) in
          record { image = subst (Holds part next) same i; only = subst (λ f. Only f d1.may_leave) same new.1.settled.only }

  as_before : (file : List ℕ) → d0.image ≡ Some file → LeavesOnly d0 d1 (IsAsBefore (bodies_of file)) → LeavesOnly d0 d1 (Holds part past)
  as_before file is leaves = weaker d0 d1 (IsAsBefore (bodies_of file)) (Holds part past) leaves (λ c was. image_same part past file c (stands.exact refl file is).image was.bodies (can_start_whole c was.whole))

  module _ (next : History) (body : List ℕ) (written : Written part past next body) where
    more : (file c : List ℕ) → Holds part past file → bodies_of c ≡ bodies_of file ++ body ∷ [] → can_start c ≡ true → Holds part next c
    more file c i is can = image_more part past next body written.entry written.read written.follows file c i is can

    stands_added : (place : ℕ) → IsLeft d0 d1 place (body ∷ []) → Stands d1 false part next
    stands_added place left = stands_left next place (body ∷ []) left more

    either : (file : List ℕ) → d0.image ≡ Some file → LeavesOnly d0 d1 (IsBeforeOrAfter (bodies_of file) body) → LeavesOnly d0 d1 (HoldsEither part past next)
    either file is leaves = weaker d0 d1 (IsBeforeOrAfter (bodies_of file) body) (HoldsEither part past next) leaves (λ c was. one c (can_start_whole c was.whole) was.bodies)
      where
        one : (c : List ℕ) → can_start c ≡ true → (bodies_of c ≡ bodies_of file) ⊎ (bodies_of c ≡ bodies_of file ++ body ∷ []) → HoldsEither part past next c
        one c can (inl e) = inl (image_same part past file c (stands.exact refl file is).image e can)
        one c can (inr e) = inr (more file c (stands.exact refl file is).image e can)

    stands_in_doubt : IsLawful d1 → ((file : List ℕ) → d0.image ≡ Some file → LeavesOnly d0 d1 (IsBeforeOrAfter (bodies_of file) body)) → Stands d1 true part past
    stands_in_doubt lawful leaves = record {
      exact = λ e. absurd (true≢false e);
      stays = λ file is c may.
          let old = told_before d1.image d0.image file tells is in
          let run = either old.0 old.1 (leaves old.0 old.1) in
          on c (run.each c (lawful.counts_now d0.moment run.later c may));
    }
      where
        on : (c : List ℕ) → HoldsEither part past next c → HoldsOn part past c
        on c (inl h) = holds_on part past past c h (begins_same past)
        on c (inr h) = holds_on part past next c h written.on

  stands_kept : (place : ℕ) → IsLeft d0 d1 place [] → Stands d1 false part past
  stands_kept place left = stands_left past place [] left (λ file c i is can. image_same part past file c i (is ∙ append-nil (bodies_of file)) can)

-- a call that makes no stroke
pub crash_none : (d : Told) (failed : Bool) (part : PartData) (past next : History) → IsLawful d → Stands d failed part past → CrashLeaves d d failed part past next
crash_none d failed part past next lawful stands = record {
  either = λ healthy file is. started d (HoldsEither part past next) lawful (λ c may. inl (one healthy file is c may));
  fewer = λ healthy file is few. started d (Holds part past) lawful (one healthy file is);
}
  where
    one : failed ≡ false → (file : List ℕ) → d.image ≡ Some file → (c : List ℕ) → d.may_leave c → Holds part past c
    one healthy file is c may = let o = stands.exact healthy file is in subst (Holds part past) (sym (o.only c may)) o.image

-- AFTER AN APPEND
module _ {D : Type 0} (told : D → Told) (lawful : (d : D) → IsLawful (told d)) (j j' : Kept D) (body : List ℕ) (result : Result (Unit {0}) AppendFault) (part : PartData) (past next : History) (stands : Stands (told j.disk) j.failed part past) (written : Written part past next body) (said : Appended told j j' body result) where
  healthy_stands : j.failed ≡ false → Stands (told j.disk) false part past
  healthy_stands healthy = subst (λ b. Stands (told j.disk) b part past) healthy stands

  pub crash_append : CrashLeaves (told j.disk) (told j'.disk) j.failed part past next
  crash_append = record {
    either = λ healthy file is. either (told j.disk) (told j'.disk) part past (healthy_stands healthy) said.tells next body written file is (said.any_moment healthy file is);
    fewer = λ healthy file is few. as_before (told j.disk) (told j'.disk) part past (healthy_stands healthy) said.tells file is (said.fewer healthy few file is);
  }

  pub healthy_ok : j.failed ≡ false → result ≡ Ok tt → j'.failed ≡ false
  healthy_ok healthy is = said.not_failed (λ e. let no : ◌≡◌ {A = Result (Unit {0}) AppendFault} (Ok tt) (Err appends.DiskFailed) = sym is ∙ e in absurd (cc no)) ∙ healthy

  module _ (placed : IsPlaced told j part past) where
    was_placed : (file : List ℕ) → (told j'.disk).image ≡ Some file → j.place ≡ end_of_history part past
    was_placed file is = let old = told_before (told j'.disk).image (told j.disk).image file said.tells is in placed old.0 old.1

    pub placed_ok : result ≡ Ok tt → IsPlaced told j' part next
    placed_ok is file there =
        let P : Result (Unit {0}) AppendFault → Type 0 = λ r. OnOk r (j'.place ≡ j.place + (header + length body)) in
        subst P is said.place ∙ ap (λ (n : ℕ). n + (header + length body)) (was_placed file there) ∙ sym (end_grows part part past next written.entry body refl written.follows written.spelled)

    pub placed_err : (fault : AppendFault) → result ≡ Err fault → IsPlaced told j' part past
    placed_err fault is file there = said.place_kept (err_is_err result fault is) ∙ was_placed file there

  module _ (healthy : j.failed ≡ false) where
    pub stands_ok : result ≡ Ok tt → Stands (told j'.disk) j'.failed part next
    stands_ok is =
        let left : IsLeft (told j.disk) (told j'.disk) j'.place (body ∷ []) = let P : Result (Unit {0}) AppendFault → Type 0 = λ r. OnOk r (IsLeft (told j.disk) (told j'.disk) j'.place (body ∷ [])) in subst P is said.ok in
        subst (λ b. Stands (told j'.disk) b part next) (sym (healthy_ok healthy is)) (stands_added (told j.disk) (told j'.disk) part past (healthy_stands healthy) said.tells next body written j'.place left)

    as_it_was : (fault : AppendFault) → result ≡ Err fault → (fault ≡ appends.NoMemory → ⊥) → (fault ≡ appends.DiskFailed → ⊥) → Stands (told j'.disk) j'.failed part past
    as_it_was fault is memory disk =
        let same : j' ≡ j = unasked (refusal_of j.failed j.place (length body)) result j j' fault said.refused said.other is memory disk in
        let P : Kept D → Type 0 = λ k. Stands (told k.disk) k.failed part past in subst P (sym same) stands

    pub stands_err : (fault : AppendFault) → result ≡ Err fault → Stands (told j'.disk) j'.failed part past
    stands_err appends.Reopen is = as_it_was appends.Reopen is (λ e. cc e) (λ e. cc e)
    stands_err appends.TooLong is = as_it_was appends.TooLong is (λ e. cc e) (λ e. cc e)
    stands_err appends.Full is = as_it_was appends.Full is (λ e. cc e) (λ e. cc e)
    stands_err appends.NoMemory is =
        let same : j'.failed ≡ false = said.not_failed (λ e. let no : ◌≡◌ {A = Result (Unit {0}) AppendFault} (Err appends.NoMemory) (Err appends.DiskFailed) = sym is ∙ e in absurd (cc no)) ∙ healthy in
        subst (λ b. Stands (told j'.disk) b part past) (sym same) (stands_kept (told j.disk) (told j'.disk) part past (healthy_stands healthy) said.tells j'.place (said.no_memory is))
    stands_err appends.DiskFailed is =
        subst (λ b. Stands (told j'.disk) b part past) (sym (said.failed is)) (stands_in_doubt (told j.disk) (told j'.disk) part past (healthy_stands healthy) said.tells next body written (lawful j'.disk) (said.any_moment healthy))
