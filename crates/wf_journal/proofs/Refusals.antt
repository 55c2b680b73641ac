-- What the test before an append says.
use Rattle.std.proofs.Common.{◌≡◌, ◌≢◌, ℕ, ◌+◌, ◌≤◌, Bool, true, false, ◌||◌, ◌==◌, nat_lt, cond, Some, None, refl, subst, rules}
use Rattle.wf_model.specs.Limits.{max_body, max_journal}
use Rattle.wf_disk.specs.Disk.{Told, IsLawful, LeavesOnly}
use Rattle.wf_disk.proofs.Runs.{started}
use Rattle.wf_journal.specs.declared.fault.AppendFault.{AppendFault}
use Rattle.wf_journal.specs.declared.fault.AppendFault.TheVariants.{Reopen, TooLong, Full, NoMemory, DiskFailed}
use Rattle.wf_journal.specs.Faults.{refusal_of}
use Rattle.wf_journal.specs.Journal.{HasBodiesOf}

pub record Passes (failed : Bool) (place n : ℕ) : Type 0 where
  pub failed_not : failed ≡ false
  pub some : 1 ≤ n
  pub most : n ≤ max_body
  pub fits : place + n + 6 ≤ max_journal

pub passes : (failed : Bool) (place n : ℕ) → refusal_of failed place n ≡ None → Passes failed place n
unfolding refusal_of
passes failed place n = go failed refl (n == 0) refl (nat_lt max_body n) refl (nat_lt max_journal (place + n + 6)) refl
  where
    go : (f : Bool) → failed ≡ f → (z : Bool) → (n == 0) ≡ z → (m : Bool) → nat_lt max_body n ≡ m → (l : Bool) → nat_lt max_journal (place + n + 6) ≡ l
        → cond f (Some Reopen) (cond (z || m) (Some TooLong) (cond l (Some Full) None)) ≡ None → Passes failed place n
    go true fi z zi m mi l li is = absurd (search (rules, is))
    go false fi true zi m mi l li is = absurd (search (rules, is))
    go false fi false zi true mi l li is = absurd (search (rules, is))
    go false fi false zi false mi true li is = absurd (search (rules, is))
    go false fi false zi false mi false li is =
        let some : 1 ≤ n = search (rules, zi) in
        let most : n ≤ max_body = search (rules, mi) in
        let fits : place + n + 6 ≤ max_journal = search (rules, li) in
        record { failed_not = fi; some = some; most = most; fits = fits }

-- such a refusal is none of the others
pub data Early : AppendFault → Type 0 where
  reopen : Early Reopen
  too_long : Early TooLong
  full : Early Full

pub early : (failed : Bool) (place n : ℕ) (fault : AppendFault) → refusal_of failed place n ≡ Some fault → Early fault
unfolding refusal_of
early failed place n fault = go failed ((n == 0) || nat_lt max_body n) (nat_lt max_journal (place + n + 6))
  where
    go : (f z l : Bool) → cond f (Some Reopen) (cond z (Some TooLong) (cond l (Some Full) None)) ≡ Some fault → Early fault
    go true z l is = let same : Reopen ≡ fault = search (rules, is) in subst Early same reopen
    go false true l is = let same : TooLong ≡ fault = search (rules, is) in subst Early same too_long
    go false false true is = let same : Full ≡ fault = search (rules, is) in subst Early same full
    go false false false is = absurd (search (rules, is))

pub early_not : (failed : Bool) (place n : ℕ) (fault : AppendFault) → refusal_of failed place n ≡ Some fault → (fault ≢ NoMemory) × (fault ≢ DiskFailed)
early_not failed place n fault is = go fault (early failed place n fault is)
  where
    go : (fault : AppendFault) → Early fault → (fault ≢ NoMemory) × (fault ≢ DiskFailed)
    go Reopen e = (λ same. cc same, λ same. cc same)
    go TooLong e = (λ same. cc same, λ same. cc same)
    go Full e = (λ same. cc same, λ same. cc same)
    go NoMemory e = elim e [ ]
    go DiskFailed e = elim e [ ]

pub idle : (t0 : Told) → IsLawful t0 → LeavesOnly t0 t0 (HasBodiesOf t0.may_leave)
idle t0 law = started t0 (HasBodiesOf t0.may_leave) law (λ c now. (c, now, refl, λ starts. starts))
