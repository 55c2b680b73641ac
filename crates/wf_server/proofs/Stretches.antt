-- How the stretches of a start follow each other.
use Rattle.std.proofs.Common.{◌≡◌, ℕ, ◌+◌, ◌≤◌, ◌<◌, nat_lt, Bool, true, false, List, Option, Some, None, refl, sym, ap, ◌∙◌, subst, inl, inr, ⊎_elim, arith, rules}
use Rattle.std.specs.Prelude.{◌⊎◌, is_some}
use Rattle.wf_model.specs.Faults.{last_count}
use Rattle.wf_disk.specs.Disk.{Told, IsSame, IsLawful, IsDown, IsSafeFor, HasCause, KeepsPlan, GoesOnOrStops, LeavesOnly}
use Rattle.wf_disk.proofs.Runs.{started, stays, weaker, joined, cause_since, cause_none, plan_then, same_first}
use Rattle.wf_journal.specs.Plan.{WentOn, Struck}
use Rattle.wf_journal.proofs.Plans.{went_none, went_same, down_on}
use Rattle.wf_parts.specs.declared.data.PartData.{PartData}
use Rattle.wf_steps.specs.Records.{history_of}
use Rattle.wf_server.specs.Images.{IsLike, HoldsOneOf}
use Rattle.wf_server.specs.Starting.{RunsFor}
use Rattle.wf_server.specs.Heads.{KeepsHistory, Stretch}
use Rattle.wf_server.proofs.Standing.{some_is}

-- where one disk tells its image, so does the other
pub told_too : (a b : Option (List ℕ)) → is_some b ≡ is_some a → (file : List ℕ) → a ≡ Some file → (now : List ℕ) × (b ≡ Some now)
told_too a None same file is = let no : is_some a ≡ true = ap (λ (o : Option (List ℕ)). is_some o) is in absurd (cc (no, same))
told_too a (Some now) same file is = (now, refl)

-- NOTHING WAS DONE

like_self : (part : PartData) (file : List ℕ) → IsLike part file file
like_self part file = record { begun = λ some. some; starts = λ can. can; history = refl }

like_then : (part : PartData) (a b c : List ℕ) → IsLike part a b → IsLike part b c → IsLike part a c
like_then part a b c first second = record {
  begun = λ some. second.begun (first.begun some);
  starts = λ can. second.starts (first.starts can);
  history = second.history ∙ first.history;
}

holds_now : (part : PartData) (d : Told) (c : List ℕ) → d.may_leave c → HoldsOneOf part d.may_leave c
holds_now part d c may = (c, may, like_self part c)

pub keeps_same : (part : PartData) (old new : Told) → IsLawful old → IsSame old new → KeepsHistory part old new
keeps_same part old new lawful same = record {
  image = λ file now was is. ap (history_of part) (some_is (sym is ∙ same.image ∙ was));
  same = λ file was some. same.image ∙ was;
  crash = λ file is. stays old old new (HoldsOneOf part old.may_leave) (started old (HoldsOneOf part old.may_leave) lawful (holds_now part old)) same;
}

pub runs_same : (old new : Told) (failed : Type 0) → IsSame old new → (failed → IsDown old) → HasCause old new failed → RunsFor old new 0 failed
runs_same old new failed same down cause = record {
  within = let clock = same.clock in omega (arith, clock);
  done = λ _. went_same old old new (went_none old) same;
  struck = λ fails. inr (went_same old old new (went_none old) same, down_on old new same (down fails));
  safe = λ safe fails. safe (old.clock + 1) (omega arith) (omega arith) (down fails (old.clock + 1) (omega arith));
  cause = cause;
  tells = ap (λ (o : Option (List ℕ)). is_some o) same.image;
}

pub stretch_same : (part : PartData) (old new : Told) (failed : Type 0) → IsLawful old → IsSame old new → (failed → IsDown old) → HasCause old new failed → Stretch part old new 0 failed
stretch_same part old new failed lawful same down cause = record { runs = runs_same old new failed same down cause; keeps = keeps_same part old new lawful same }

-- ONE AFTER THE OTHER

-- up to the middle, or behind it
cases_at : (n k : ℕ) → (n ≤ k) ⊎ (k < n)
cases_at n k = go (nat_lt k n) refl
  where
    go : (past : Bool) → nat_lt k n ≡ past → (n ≤ k) ⊎ (k < n)
    go true is = let more : k < n = search (rules, is) in inr more
    go false is = let less : n ≤ k = search (rules, is) in inl less

stops_since : (old mid new : Told) (n : ℕ) → KeepsPlan old mid → GoesOnOrStops mid new n → GoesOnOrStops old new n
stops_since old mid new n plan (inl (goes, keeps)) = inl (λ stops. goes (plan.stops_kept n stops), plan_then old mid new plan keeps)
stops_since old mid new n plan (inr (stops, down)) = inr (plan.no_other_stop n stops, down)

module _ (old mid new : Told) (tells : is_some mid.image ≡ is_some old.image) (first : WentOn old mid) where
  pub went_then : WentOn mid new → WentOn old new
  went_then second = record {
    later = let a = first.later in let b = second.later in omega (arith, a, b);
    safe = λ file is n after within fails.
        let here = told_too old.image mid.image tells file is in
        elim (cases_at n mid.clock) [
          | inl before ↦ first.safe file is n after before fails
          | inr behind ↦ second.safe here.0 here.1 n behind within (first.plan.kept n fails)
        ];
    plan = plan_then old mid new first.plan second.plan;
  }

  pub struck_then : (m n : ℕ) → mid.clock ≤ old.clock + m → Struck mid new n → Struck old new (m + n)
  struck_then m n few s = record {
    stroke = s.stroke;
    later = let a = first.later in let b = s.later in omega (arith, a, b);
    within = let b = s.within in omega (arith, few, b);
    hit = first.plan.no_other s.stroke s.hit;
    first = λ file is k after before fails.
        let here = told_too old.image mid.image tells file is in
        elim (cases_at k mid.clock) [
          | inl inside ↦ first.safe file is k after inside fails
          | inr behind ↦ s.first here.0 here.1 k behind before (first.plan.kept k fails)
        ];
    clock = s.clock;
    goes_on_or_stops = stops_since old mid new s.stroke first.plan s.goes_on_or_stops;
  }

  safe_then : (m n : ℕ) → mid.clock ≤ old.clock + m → IsSafeFor old (m + n + 1) → IsSafeFor mid (n + 1)
  safe_then m n few safe k after within fails = let a = first.later in safe k (omega (arith, a, after)) (omega (arith, few, within)) (first.plan.no_other k fails)

  pub runs_then : (m n : ℕ) (failed : Type 0) → mid.clock ≤ old.clock + m → mid.faults ≡ old.faults → RunsFor mid new n failed → RunsFor old new (m + n) failed
  runs_then m n failed few faults runs = record {
    within = let last = runs.within in omega (arith, few, last);
    done = λ none. went_then (runs.done none);
    struck = λ fails. ⊎_elim (λ s. inl (struck_then m n few s)) (λ d. inr (went_then d.0, d.1)) (runs.struck fails);
    safe = λ safe fails. runs.safe (safe_then m n few safe) fails;
    cause = cause_since old mid new failed failed faults runs.cause (λ f. f) (λ f. f);
    tells = runs.tells ∙ tells;
  }

  pub keeps_then : (part : PartData) → IsLawful mid → KeepsHistory part old mid → KeepsHistory part mid new → KeepsHistory part old new
  keeps_then part lawful a b = record {
    image = λ file now was is. let here = told_too old.image mid.image tells file was in b.image here.0 now here.1 is ∙ a.image file here.0 was here.1;
    same = λ file was some. b.same file (a.same file was some) some;
    crash = λ file is.
        let here = told_too old.image mid.image tells file is in
        let run = a.crash file is in
        joined old mid new (HoldsOneOf part old.may_leave) run
        (weaker mid new (HoldsOneOf part mid.may_leave) (HoldsOneOf part old.may_leave) (b.crash here.0 here.1)
        (λ c one. let two = run.each one.0 (lawful.counts_now old.moment run.later one.0 one.1) in (two.0, two.1, like_then part two.0 one.0 c two.2 one.2)));
  }

-- the clock of one that failed
pub struck_within : (old new : Told) (most : ℕ) → Struck old new most → new.clock ≤ old.clock + most
struck_within old new most s = go s.clock
  where
    go : (new.clock ≡ s.stroke) ⊎ ((new.clock ≡ last_count) × (s.stroke ≡ last_count + 1)) → new.clock ≤ old.clock + most
    go (inl at) = let in_time = s.within in omega (arith, at, in_time)
    go (inr end) = let in_time = s.within in let at = end.0 in let last = end.1 in omega (arith, at, last, in_time)

-- fewer strokes
pub struck_more : (old new : Told) (m n : ℕ) → m ≤ n → Struck old new m → Struck old new n
struck_more old new m n le s = record {
  stroke = s.stroke;
  later = s.later;
  within = let b = s.within in omega (arith, le, b);
  hit = s.hit;
  first = s.first;
  clock = s.clock;
  goes_on_or_stops = s.goes_on_or_stops;
}

safe_less : (old : Told) (m n : ℕ) → m ≤ n → IsSafeFor old (n + 1) → IsSafeFor old (m + 1)
safe_less old m n le safe k after within fails = safe k after (omega (arith, le, within)) fails

pub runs_more : (old new : Told) (m n : ℕ) (failed : Type 0) → m ≤ n → RunsFor old new m failed → RunsFor old new n failed
runs_more old new m n failed le runs = record {
  within = let last = runs.within in omega (arith, le, last);
  done = runs.done;
  struck = λ fails. ⊎_elim (λ s. inl (struck_more old new m n le s)) (λ d. inr d) (runs.struck fails);
  safe = λ safe fails. runs.safe (safe_less old m n le safe) fails;
  cause = runs.cause;
  tells = runs.tells;
}

pub stretch_more : (part : PartData) (old new : Told) (m n : ℕ) (failed : Type 0) → m ≤ n → Stretch part old new m failed → Stretch part old new n failed
stretch_more part old new m n failed le s = record { runs = runs_more old new m n failed le s.runs; keeps = s.keeps }

-- the same answer in other words
pub runs_as : (old new : Told) (most : ℕ) (F G : Type 0) → (F → G) → (G → F) → RunsFor old new most F → RunsFor old new most G
runs_as old new most F G to from runs = record {
  within = runs.within;
  done = λ none. runs.done (λ f. none (to f));
  struck = λ g. runs.struck (from g);
  safe = λ safe g. runs.safe safe (from g);
  cause = cause_since old old new F G refl runs.cause from to;
  tells = runs.tells;
}

pub stretch_as : (part : PartData) (old new : Told) (most : ℕ) (F G : Type 0) → (F → G) → (G → F) → Stretch part old new most F → Stretch part old new most G
stretch_as part old new most F G to from s = record { runs = runs_as old new most F G to from s.runs; keeps = s.keeps }

-- two stretches, the first of which didn't fail
pub stretch_then : (part : PartData) (old mid new : Told) (m n : ℕ) (none failed : Type 0) → (none → ⊥) → mid.clock ≤ old.clock + m → IsLawful mid → Stretch part old mid m none → Stretch part mid new n failed → Stretch part old new (m + n) failed
stretch_then part old mid new m n none failed went few lawful a b = record {
  runs = runs_then old mid new a.runs.tells (a.runs.done went) m n failed few (a.runs.cause.kept went) b.runs;
  keeps = keeps_then old mid new a.runs.tells (a.runs.done went) part lawful a.keeps b.keeps;
}

-- a call that gave up before it did anything
pub stretch_none : (part : PartData) (disk : Told) (most : ℕ) (failed : Type 0) → IsLawful disk → (failed → ⊥) → Stretch part disk disk most failed
stretch_none part disk most failed lawful none =
    stretch_more part disk disk 0 most failed (omega arith) (stretch_same part disk disk failed lawful (same_first disk) (λ f. absurd (none f)) (cause_none disk disk failed refl none))
