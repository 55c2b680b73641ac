-- How a start meets the plan of its disk.
use Rattle.std.proofs.Common.{◌≡◌, ◌≢◌, inl, inr, ℕ, ◌+◌, ◌≤◌, ◌<◌, nat_lt, Bool, true, false, if◌then◌else◌, List, length, Option, None, Some, IfSome, is_some, Result, Ok, Err, IsErrOf, IfErr, refl, sym, ◌∙◌, ap, subst, arith, rules}
use Rattle.std.proofs.lemmas.Bool.{cond-true}
use Rattle.wf_disk.specs.Disk.{Told, IsDown, IsSame, Strikes, GoesToPlan}
use Rattle.wf_disk.specs.declared.disk.WriteRefused.{WriteRefused}
use Rattle.wf_disk.specs.declared.disk.WriteRefused.TheVariants as write
use Rattle.wf_journal.specs.declared.fault.StartFault.{StartFault}
use Rattle.wf_journal.specs.declared.fault.StartFault.TheVariants as start
use Rattle.wf_journal.specs.Faults.{start_fault}
use Rattle.wf_journal.specs.Plan.{WentOn, Struck, IsFoundDown, StartMeetsPlan}
use Rattle.wf_journal.specs.Start.{start_strokes}
use Rattle.wf_journal.proofs.Plans.{down_on, went_none, went_same, went_stroke, struck_here}

some_stroke : (image : Option (List ℕ)) → 1 ≤ start_strokes image
some_stroke None = omega arith
some_stroke (Some file) = go (nat_lt (length file) 2)
  where
    go : (few : Bool) → 1 ≤ (if few then 3 else 1)
    go true = omega arith
    go false = omega arith

three_strokes : (image : Option (List ℕ)) (size : ℕ) → IfSome image (λ file. size ≡ length file) → size < 2 → start_strokes image ≡ 3
three_strokes None size known few = refl
three_strokes (Some file) size known few = let short : nat_lt (length file) 2 ≡ true = search (rules, known, few) in cond-true (nat_lt (length file) 2) 3 1 short

pub met_start : (old new : Told) (failed : Type 0) → WentOn old new → (failed → ⊥) → StartMeetsPlan old new failed
met_start old new failed went none = record { done = λ _. went; struck = λ fails. absurd (none fails) }

pub met_start_at : (old new : Told) (failed : Type 0) → failed → Struck old new (start_strokes old.image) → StartMeetsPlan old new failed
met_start_at old new failed fails struck = record { done = λ none. absurd (none fails); struck = λ _. inl struck }

met_start_down : (old new : Told) (failed : Type 0) → failed → IsFoundDown old new → StartMeetsPlan old new failed
met_start_down old new failed fails found = record { done = λ none. absurd (none fails); struck = λ _. inr found }

-- the same answer in other words
pub met_start_as : (old new : Told) (F G : Type 0) → (F → G) → (G → F) → StartMeetsPlan old new F → StartMeetsPlan old new G
met_start_as old new F G to from met = record { done = λ none. met.done (λ fails. none (to fails)); struck = λ fails. met.struck (from fails) }

-- THE STROKES OF A START
module _ (t0 t1 : Told) (ok1 f1 : Type 0) (s1 : Strikes t0 t1 ok1 f1) (p1 : GoesToPlan t0 t1 ok1 f1) where
  pub start_struck1 : f1 → Struck t0 t1 (start_strokes t0.image)
  start_struck1 fails = struck_here t0 t0 t1 (start_strokes t0.image) ok1 f1 (went_none t0) s1 p1 fails (let some = some_stroke t0.image in omega (arith, some))

  module _ (d1 : ok1) (image1 : t1.image ≡ t0.image) (t2 : Told) (same : IsSame t1 t2) where
    pub start_went1 : WentOn t0 t2
    start_went1 = went_same t0 t1 t2 (went_stroke t0 t0 t1 ok1 f1 (went_none t0) refl s1 p1 d1) same

    pub start_clock1 : t2.clock ≡ t0.clock + 1
    start_clock1 = let one : t1.clock ≡ t0.clock + 1 = s1.done d1 in omega (arith, one, same.clock)

    tells1 : is_some t2.image ≡ is_some t0.image
    tells1 = ap (λ (o : Option (List ℕ)). is_some o) (same.image ∙ image1)

    -- the size failed
    pub start_down1 : (failed : Type 0) → failed → IsDown t1 → StartMeetsPlan t0 t2 failed
    start_down1 failed fails down = met_start_down t0 t2 failed fails (record { went_on = start_went1; clock = start_clock1; down = down_on t1 t2 same down })

    -- the walk ended or failed
    pub start_walked : (t3 : Told) (failed : Type 0) (same3 : IsSame t2 t3) → (failed → IsDown t2) → StartMeetsPlan t0 t3 failed
    start_walked t3 failed same3 down = record {
      done = λ _. went_same t0 t2 t3 start_went1 same3;
      struck = λ fails.
          inr (record { went_on = went_same t0 t2 t3 start_went1 same3; clock = omega (arith, start_clock1, same3.clock); down = down_on t2 t3 same3 (down fails) });
    }

    module _ (size : ℕ) (known : IfSome t1.image (λ file. size ≡ length file)) (few : size < 2) where
      three : start_strokes t0.image ≡ 3
      three = three_strokes t0.image size (subst (λ (o : Option (List ℕ)). IfSome o (λ file. size ≡ length file)) image1 known) few

      module _ (t3 : Told) (ok3 f3 : Type 0) (s3 : Strikes t2 t3 ok3 f3) (p3 : GoesToPlan t2 t3 ok3 f3) where
        pub start_struck2 : f3 → Struck t0 t3 (start_strokes t0.image)
        start_struck2 fails = struck_here t0 t2 t3 (start_strokes t0.image) ok3 f3 start_went1 s3 p3 fails (omega (arith, start_clock1, three))

        module _ (d3 : ok3) (tells3 : is_some t3.image ≡ is_some t2.image) where
          start_went2 : WentOn t0 t3
          start_went2 = went_stroke t0 t2 t3 ok3 f3 start_went1 tells1 s3 p3 d3

          clock2 : t3.clock ≡ t0.clock + 2
          clock2 = let second : t3.clock ≡ t2.clock + 1 = s3.done d3 in omega (arith, second, start_clock1)

          module _ (t4 : Told) (ok4 f4 : Type 0) (s4 : Strikes t3 t4 ok4 f4) (p4 : GoesToPlan t3 t4 ok4 f4) where
            pub start_struck3 : f4 → Struck t0 t4 (start_strokes t0.image)
            start_struck3 fails = struck_here t0 t3 t4 (start_strokes t0.image) ok4 f4 start_went2 s4 p4 fails (omega (arith, clock2, three))

            pub start_went3 : ok4 → WentOn t0 t4
            start_went3 d4 = went_stroke t0 t3 t4 ok4 f4 start_went2 (tells3 ∙ tells1) s4 p4 d4

-- the write of the first gate was refused
pub met_start_write : (old mid new : Told) (result : Result Unit WriteRefused) (why : WriteRefused) → result ≡ Err why → WentOn old mid → (IsErrOf result write.NoMemory → IsSame mid new)
    → (IsErrOf result write.Failed → Struck old new (start_strokes old.image)) → StartMeetsPlan old new (start_fault why ≡ start.DiskFailed)
met_start_write old mid new result write.Failed is went same struck = met_start_at old new (start.DiskFailed ≡ start.DiskFailed) refl (struck is)
met_start_write old mid new result write.NoMemory is went same struck =
    met_start old new (start.NoMemory ≡ start.DiskFailed) (went_same old mid new went (same is)) (λ fails. cc fails)

pub one_write : (t0 mid new : Told) (result : Result Unit WriteRefused) (why : WriteRefused) → result ≡ Err why → mid.clock ≡ t0.clock + 1 → (IsErrOf result write.NoMemory → IsSame mid new)
    → start_fault why ≢ start.DiskFailed → new.clock ≡ t0.clock + 1
one_write t0 mid new result write.Failed is one same isnt = absurd (isnt refl)
one_write t0 mid new result write.NoMemory is one same isnt = (same is).clock ∙ one

-- what holds of each error
pub each_err : {T : Type 0} (result : Result T StartFault) (P : StartFault → Type 0) → ((e : StartFault) → P e) → IfErr result P
each_err (Ok x) P all = tt
each_err (Err e) P all = all e

pub err_is : {T : Type 0} (result : Result T StartFault) (e : StartFault) (P : StartFault → Type 0) → result ≡ Err e → P e → IfErr result P
err_is {T = T} result e P is has = subst (λ (r : Result T StartFault). IfErr r P) (sym is) has
