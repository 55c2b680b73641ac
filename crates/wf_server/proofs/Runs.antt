-- What a call that may add a record does to its disk.
use Rattle.std.proofs.Common.{◌≡◌, ℕ, ◌+◌, ◌≤◌, ◌<◌, Bool, true, false, List, length, Option, Some, None, refl, sym, ap, ◌∙◌, subst, inl, inr, cond, arith, rules}
use Rattle.std.specs.Prelude.{◌⊎◌, ◌==◌, ◌||◌, nat_lt, is_some, Result, Ok, Err, IfSome, IsNone, IfErr, OnOk, IsErrOf}
use Rattle.wf_model.specs.Limits.{max_body, max_journal}
use Rattle.wf_disk.specs.Disk.{Told, IsLawful, IsSafeFor, HasCause}
use Rattle.wf_disk.proofs.Runs.{cause_none, cause_since}
use Rattle.wf_journal.specs.Plan.{MeetsPlan}
use Rattle.wf_journal.specs.Room.{UsesRoom}
use Rattle.wf_journal.specs.Faults.{refusal_of}
use Rattle.wf_journal.specs.State.{Kept}
use Rattle.wf_journal.specs.declared.fault.AppendFault.{AppendFault}
use Rattle.wf_journal.specs.declared.fault.AppendFault.TheVariants as appends
use Rattle.wf_journal.proofs.Plans.{went_none, met, met_as}
use Rattle.wf_server.specs.Running.{RunsOn}
use Rattle.wf_server.proofs.Standing.{Appended}

-- no stroke was made
pub runs_none : (d : Told) (added no_memory failed : Type 0) → (added → ⊥) → (failed → ⊥) → RunsOn d d added no_memory failed
runs_none d added no_memory failed not_added not_failed = record {
  plan = met d d 4 failed (went_none d) not_failed;
  safe = λ safe fails. not_failed fails;
  cause = cause_none d d failed refl not_failed;
  four = λ is. absurd (not_added is);
  two = λ _. omega arith;
  tells = refl;
}

-- so no room is gone
pub room_none : (d : Told) → IsLawful d → (used_writes used_bytes : ℕ) → UsesRoom d d used_writes used_bytes
room_none d lawful used_writes used_bytes = λ writes bytes. lawful.less writes used_writes bytes used_bytes

-- an append was made, and answered so
module _ {D : Type 0} (told : D → Told) (j j' : Kept D) (body : List ℕ) (result : Result (Unit {0}) AppendFault) (said : Appended told j j' body result) where
  pub runs_ok : (added no_memory failed : Type 0) → result ≡ Ok tt → (no_memory → ⊥) → (failed → ⊥) → RunsOn (told j.disk) (told j'.disk) added no_memory failed
  runs_ok added no_memory failed is not_memory not_failed =
      let none : IsErrOf result appends.DiskFailed → ⊥ = λ e. let unlike : ◌≡◌ {A = Result (Unit {0}) AppendFault} (Ok tt) (Err appends.DiskFailed) = sym is ∙ e in cc unlike in
      record {
        plan = met (told j.disk) (told j'.disk) 4 failed (said.plan.done none) not_failed;
        safe = λ safe fails. not_failed fails;
        cause = cause_none (told j.disk) (told j'.disk) failed (said.cause.kept none) not_failed;
        four = λ _. let P : Result (Unit {0}) AppendFault → Type 0 = λ r. OnOk r ((told j'.disk).clock ≡ (told j.disk).clock + 4) in subst P is said.four;
        two = λ m. absurd (not_memory m);
        tells = said.tells;
      }

  pub runs_err : (added no_memory failed : Type 0) → (added → ⊥) → (no_memory → IsErrOf result appends.NoMemory) → (failed → IsErrOf result appends.DiskFailed) → (IsErrOf result appends.DiskFailed → failed) → RunsOn (told j.disk) (told j'.disk) added no_memory failed
  runs_err added no_memory failed not_added to_memory to from = record {
    plan = met_as (told j.disk) (told j'.disk) 4 (IsErrOf result appends.DiskFailed) failed from to said.plan;
    safe = λ safe fails. said.safe safe (to fails);
    cause = cause_since (told j.disk) (told j.disk) (told j'.disk) (IsErrOf result appends.DiskFailed) failed refl said.cause to from;
    four = λ is. absurd (not_added is);
    two = λ m. said.two (to_memory m);
    tells = said.tells;
  }

-- WHY A BODY IS REFUSED

none_some : {f : AppendFault} → ◌≡◌ {A = Option AppendFault} None (Some f) → ⊥
none_some e = cc

-- it was an earlier failure
pub reopen_failed : (failed : Bool) (place n : ℕ) → refusal_of failed place n ≡ Some appends.Reopen → failed ≡ true
unfolding refusal_of
reopen_failed true place n is = refl
reopen_failed false place n is = absurd (go ((n == 0) || nat_lt max_body n) (nat_lt max_journal (place + n + 6)) is)
  where
    go : (long full : Bool) → cond long (Some appends.TooLong) (cond full (Some appends.Full) None) ≡ Some appends.Reopen → ⊥
    go true full e = cc e
    go false true e = cc e
    go false false e = none_some e

-- a body that a journal takes isn't too long
pub never_long : (failed : Bool) (place n : ℕ) → 1 ≤ n → n ≤ max_body → refusal_of failed place n ≡ Some appends.TooLong → ⊥
unfolding refusal_of
never_long true place n some most is = cc is
never_long false place n some most is = go ((n == 0) || nat_lt max_body n) short (nat_lt max_journal (place + n + 6)) is
  where
    short : ((n == 0) || nat_lt max_body n) ≡ false
    short = search (rules, some, most)

    go : (long : Bool) → long ≡ false → (full : Bool) → cond long (Some appends.TooLong) (cond full (Some appends.Full) None) ≡ Some appends.TooLong → ⊥
    go true e full is = cc e
    go false e true is = cc is
    go false e false is = none_some is

-- how the answer of an append tells of the test beforehand
pub refusal_by : (refusal : Option AppendFault) (result : Result (Unit {0}) AppendFault) (same : Type 0) (fault : AppendFault) → IfSome refusal (λ f. (result ≡ Err f) × same) → (IsNone refusal → IfErr result (λ f. (f ≡ appends.NoMemory) ⊎ (f ≡ appends.DiskFailed))) →
    result ≡ Err fault → (fault ≡ appends.NoMemory → ⊥) → (fault ≡ appends.DiskFailed → ⊥) → refusal ≡ Some fault
refusal_by (Some f) result same fault some none is memory disk = let e : ◌≡◌ {A = Result (Unit {0}) AppendFault} (Err f) (Err fault) = sym some.0 ∙ is in let q : f ≡ fault = cc e in ap (λ (x : AppendFault). Some x) q
refusal_by None result same fault some none is memory disk = absurd (go result is (none refl))
  where
    go : (r : Result (Unit {0}) AppendFault) → r ≡ Err fault → IfErr r (λ f. (f ≡ appends.NoMemory) ⊎ (f ≡ appends.DiskFailed)) → ⊥
    go (Ok u) e h = cc e
    go (Err f) e (inl m) = let q : f ≡ fault = cc e in memory (sym q ∙ m)
    go (Err f) e (inr d) = let q : f ≡ fault = cc e in disk (sym q ∙ d)

-- a disk that failed was asked
pub asked_by : (refusal : Option AppendFault) (failed before : Bool) (result : Result (Unit {0}) AppendFault) (same : Type 0) → (same → failed ≡ before) → before ≡ false → failed ≡ true → IfSome refusal (λ f. (result ≡ Err f) × same) → refusal ≡ None
asked_by None failed before result same to unlike is_so some = refl
asked_by (Some f) failed before result same to unlike is_so some = let e : true ≡ false = sym is_so ∙ to some.1 ∙ unlike in absurd (cc e)
