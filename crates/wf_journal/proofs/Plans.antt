-- How a call of several strokes meets the plan of its disk.
use Rattle.std.proofs.Common.{◌≡◌, ◌⊎◌, inl, inr, ⊎_elim, ℕ, ◌+◌, ◌<◌, ◌≤◌, nat_lt, Bool, true, false, subst, List, Option, None, Some, is_some, Result, Err, IsErrOf, refl, ◌∙◌, ap, arith, rules}
use Rattle.wf_disk.specs.Disk.{Told, KeepsPlan, GoesOnOrStops, IsDown, IsSafeFor, IsSame, Strikes, GoesToPlan}
use Rattle.wf_disk.specs.declared.disk.WriteRefused.{WriteRefused}
use Rattle.wf_disk.specs.declared.disk.WriteRefused.TheVariants.{Failed, NoMemory}
use Rattle.wf_disk.proofs.Runs.{plan_same, plan_then}
use Rattle.wf_journal.specs.Plan.{WentOn, Struck, MeetsPlan}

-- A DISK THAT IS DOWN, seen before and after a call that is no stroke
pub down_back : (old new : Told) → IsSame old new → IsDown new → IsDown old
down_back old new same down n after = same.plan.no_other n (down n (omega (arith, after, same.clock)))

pub down_on : (old new : Told) → IsSame old new → IsDown old → IsDown new
down_on old new same down n after = same.plan.kept n (down n (omega (arith, after, same.clock)))

-- STROKES THAT WERE DONE
pub went_none : (disk : Told) → WentOn disk disk
went_none disk = record { later = omega arith; safe = λ file is n after within fails. absurd (omega (arith, after, within)); plan = plan_same disk }

pub went_same : (old mid new : Told) → WentOn old mid → IsSame mid new → WentOn old new
went_same old mid new went same = record {
  later = omega (arith, went.later, same.clock);
  safe = λ file is n after within fails. went.safe file is n after (omega (arith, within, same.clock)) fails;
  plan = plan_then old mid new went.plan same.plan;
}

-- up to one more: below it, or that one
nat_cases : (n k : ℕ) → n ≤ k + 1 → (n ≤ k) ⊎ (n ≡ k + 1)
nat_cases n k within = go (nat_lt k n) refl
  where
    go : (past : Bool) → nat_lt k n ≡ past → (n ≤ k) ⊎ (n ≡ k + 1)
    go true is = let more : k < n = search (rules, is) in inr (omega (arith, more, within))
    go false is = let less : n ≤ k = search (rules, is) in inl less

-- where the first disk tells its image, a later one does
told_too : (a b : Option (List ℕ)) → is_some b ≡ is_some a → (file : List ℕ) → a ≡ Some file → (now : List ℕ) × (b ≡ Some now)
told_too a None same file is = let no : is_some a ≡ true = ap (λ o. is_some o) is in absurd (cc (no, same))
told_too a (Some now) same file is = (now, refl)

pub went_stroke : (old mid new : Told) (ok failure : Type 0) → WentOn old mid → is_some mid.image ≡ is_some old.image → Strikes mid new ok failure → GoesToPlan mid new ok failure → ok → WentOn old new
went_stroke old mid new ok failure went tells strikes plan done =
    let clock : new.clock ≡ mid.clock + 1 = strikes.done done in
    record {
      later = omega (arith, went.later, clock);
      safe = λ file is n after within fails.
          let here = told_too old.image mid.image tells file is in
          elim (nat_cases n mid.clock (omega (arith, within, clock))) [
            | inl before ↦ went.safe file is n after before fails
            | inr last ↦ plan.done done here.0 here.1 (went.plan.kept (mid.clock + 1) (subst old.is_to_fail last fails))
          ];
      plan = plan_then old mid new went.plan (plan.kept done);
    }

-- THE STROKE THAT FAILED
stops_since : (old mid new : Told) (n : ℕ) → KeepsPlan old mid → GoesOnOrStops mid new n → GoesOnOrStops old new n
stops_since old mid new n plan (inl (goes, keeps)) = inl (λ stops. goes (plan.stops_kept n stops), plan_then old mid new plan keeps)
stops_since old mid new n plan (inr (stops, down)) = inr (plan.no_other_stop n stops, down)

pub struck_here : (old mid new : Told) (most : ℕ) (ok failure : Type 0) → WentOn old mid → Strikes mid new ok failure → GoesToPlan mid new ok failure → failure → mid.clock + 1 ≤ old.clock + most
    → Struck old new most
struck_here old mid new most ok failure went strikes plan fails within = record {
  stroke = mid.clock + 1;
  later = omega (arith, went.later);
  within = within;
  hit = went.plan.no_other (mid.clock + 1) (plan.failed fails);
  first = λ file is n after before. went.safe file is n after (omega (arith, before));
  clock = ⊎_elim (λ one. inl one) (λ idle. inr (idle.0.1, ap (λ k. k + 1) idle.0.0)) (strikes.failed fails);
  goes_on_or_stops = stops_since old mid new (mid.clock + 1) went.plan (plan.goes_on_or_stops fails);
}

-- no such stroke where none is to fail
pub not_struck : (old new : Told) (most : ℕ) → IsSafeFor old most → Struck old new most → ⊥
not_struck old new most safe struck = safe struck.stroke struck.later struck.within struck.hit

-- WHAT A CALL SAYS
pub met : (old new : Told) (most : ℕ) (failed : Type 0) → WentOn old new → (failed → ⊥) → MeetsPlan old new most failed
met old new most failed went none = record { done = λ _. went; struck = λ fails. absurd (none fails) }

pub met_at : (old new : Told) (most : ℕ) (failed : Type 0) → failed → Struck old new most → MeetsPlan old new most failed
met_at old new most failed fails struck = record { done = λ none. absurd (none fails); struck = λ _. struck }

-- a write that is refused
pub met_write : (old mid new : Told) (most : ℕ) (result : Result Unit WriteRefused) (why : WriteRefused) → result ≡ Err why → WentOn old mid → (IsErrOf result NoMemory → IsSame mid new)
    → (IsErrOf result Failed → Struck old new most) → MeetsPlan old new most (IsErrOf {T = Unit} (Err why) Failed)
met_write old mid new most result Failed is went same struck = met_at old new most _ refl (struck is)
met_write old mid new most result NoMemory is went same struck =
    met old new most _ (went_same old mid new went (same is)) (λ fails. cc fails)

-- the same answer in other words
pub met_as : (old new : Told) (most : ℕ) (F G : Type 0) → (F → G) → (G → F) → MeetsPlan old new most F → MeetsPlan old new most G
met_as old new most F G to from met = record { done = λ none. met.done (λ fails. none (to fails)); struck = λ fails. met.struck (from fails) }

-- THE FOUR STROKES OF AN APPEND
module _ (t0 t1 : Told) (ok1 f1 : Type 0) (s1 : Strikes t0 t1 ok1 f1) (p1 : GoesToPlan t0 t1 ok1 f1) where
  module _ (d1 : ok1) (tells1 : is_some t1.image ≡ is_some t0.image) where
    pub went1 : WentOn t0 t1
    went1 = went_stroke t0 t0 t1 ok1 f1 (went_none t0) refl s1 p1 d1

    clock1 : t1.clock ≡ t0.clock + 1
    clock1 = s1.done d1

    module _ (t2 : Told) (ok2 f2 : Type 0) (s2 : Strikes t1 t2 ok2 f2) (p2 : GoesToPlan t1 t2 ok2 f2) where
      module _ (d2 : ok2) (image2 : t2.image ≡ t1.image) where
        tells2 : is_some t2.image ≡ is_some t0.image
        tells2 = ap (λ (o : Option (List ℕ)). is_some o) image2 ∙ tells1

        pub went2 : WentOn t0 t2
        went2 = went_stroke t0 t1 t2 ok2 f2 went1 tells1 s2 p2 d2

        clock2 : t2.clock ≡ t0.clock + 2
        clock2 = let second : t2.clock ≡ t1.clock + 1 = s2.done d2 in omega (arith, second, clock1)

        module _ (t3 : Told) (ok3 f3 : Type 0) (s3 : Strikes t2 t3 ok3 f3) (p3 : GoesToPlan t2 t3 ok3 f3) where
          pub struck3 : f3 → Struck t0 t3 4
          struck3 fails = struck_here t0 t2 t3 4 ok3 f3 went2 s3 p3 fails (omega (arith, clock2))

          module _ (d3 : ok3) (tells3 : is_some t3.image ≡ is_some t2.image) where
            went3 : WentOn t0 t3
            went3 = went_stroke t0 t2 t3 ok3 f3 went2 tells2 s3 p3 d3

            clock3 : t3.clock ≡ t0.clock + 3
            clock3 = let third : t3.clock ≡ t2.clock + 1 = s3.done d3 in omega (arith, third, clock2)

            module _ (t4 : Told) (ok4 f4 : Type 0) (s4 : Strikes t3 t4 ok4 f4) (p4 : GoesToPlan t3 t4 ok4 f4) where
              pub struck4 : f4 → Struck t0 t4 4
              struck4 fails = struck_here t0 t3 t4 4 ok4 f4 went3 s4 p4 fails (omega (arith, clock3))
