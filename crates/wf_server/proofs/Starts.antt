-- How a start opens its journal, and goes on.
use Rattle.std.proofs.Common.{◌≡◌, ◌≢◌, ℕ, ◌+◌, ◌≤◌, ◌<◌, ◌||◌, not, nat_lt, if◌then◌else◌, Bool, true, false, true≢false, List, [], length, Option, Some, None, refl, sym, ap, ap₂, ◌∙◌, subst, inl, inr, ⊎_elim, arith, rules}
use Rattle.std.specs.Prelude.{◌⊎◌, is_some, Result, Ok, Err, IfOk, IfErr}
use Rattle.wf_disk.specs.Disk.{Told, IsLawful, IsSafeFor, HasCause, LeavesOnly}
use Rattle.wf_disk.proofs.Runs.{weaker, cause_none}
use Rattle.wf_journal.specs.Frames.{bodies_of, is_broken, can_start}
use Rattle.wf_journal.specs.Journal.{IsLeft, HasBodiesOf, KeepsBodies}
use Rattle.wf_journal.specs.Plan.{WentOn, Struck, IsFoundDown, StartMeetsPlan}
use Rattle.wf_journal.specs.Start.{start_strokes, TakesStrokes, IsWhole, IsBadAt, LeavesStart}
use Rattle.wf_journal.specs.declared.fault.StartFault.{StartFault}
use Rattle.wf_journal.specs.declared.fault.StartFault.TheVariants as starts
use Rattle.wf_parts.specs.declared.data.PartData.{PartData}
use Rattle.wf_histories.specs.Histories.{History}
use Rattle.wf_steps.specs.declared.fault.RecoverFault.{RecoverFault}
use Rattle.wf_steps.specs.declared.fault.RecoverFault.TheVariants as recovery
use Rattle.wf_steps.specs.Recovering.{IsFault}
use Rattle.wf_steps.specs.Records.{history_in, history_of}
use Rattle.wf_server.specs.declared.fault.NodeFault.{NodeFault}
use Rattle.wf_server.specs.declared.fault.NodeFault.TheVariants as faults
use Rattle.wf_server.specs.Images.{Holds, HoldsOneOf}
use Rattle.wf_server.specs.Starting.{BreaksAt, StartFails, LeavesBad, has_none, strokes_on, most_on, unstarted_by, unrecovered_by, RunsFor, Reopens, StaysShut}
use Rattle.wf_server.specs.Heads.{KeepsHistory, Stretch, HeadStrokes, most_head, IsStill, ReadFails}
use Rattle.wf_server.proofs.Standing.{told_before, some_is}
use Rattle.wf_server.proofs.Stretches.{told_too, struck_within, stretch_more, stretch_then}
use Rattle.wf_server.proofs.Empty.{none_holds, short_none, has_none_of, has_some_of}
use Rattle.wf_server.proofs.Reading.{one_ok}

pub same_bodies : (part : PartData) (a b : List ℕ) → bodies_of a ≡ bodies_of b → history_of part a ≡ history_of part b
unfolding history_of
same_bodies part a b e = ap (history_in part) e

-- THE JOURNAL'S START

-- the start of a journal makes no more strokes than that of a server
pub fewer_strokes : (image : Option (List ℕ)) → start_strokes image ≤ most_on image
fewer_strokes None = omega arith
fewer_strokes (Some file) = go (nat_lt (length file) 2) (has_none (bodies_of file))
  where
    go : (short none : Bool) → (if short then 3 else 1) ≤ (if short then 7 else (if none then 5 else 1))
    go true none = omega arith
    go false true = omega arith
    go false false = omega arith

-- how many it makes if it is done
made_strokes : (old new : Told) → TakesStrokes old new → new.clock ≤ old.clock + 3 → (image : Option (List ℕ)) → old.image ≡ image → new.clock ≤ old.clock + start_strokes image
made_strokes old new takes most None is = most
made_strokes old new takes most (Some file) is = let clock = takes file is in omega (arith, clock)

one_at_least : (image : Option (List ℕ)) → 1 ≤ start_strokes image
one_at_least None = omega arith
one_at_least (Some file) = go (nat_lt (length file) 2)
  where
    go : (short : Bool) → 1 ≤ (if short then 3 else 1)
    go true = omega arith
    go false = omega arith

long_of : (file : List ℕ) → bodies_of file ≢ [] → 2 ≤ length file
long_of file some = go (nat_lt (length file) 2) refl
  where
    go : (short : Bool) → nat_lt (length file) 2 ≡ short → 2 ≤ length file
    go true is = absurd (some (short_none file (let few : length file < 2 = search (rules, is) in few)))
    go false is = let long : 2 ≤ length file = search (rules, is) in long

pub start_keeps : (part : PartData) (old new : Told) → KeepsBodies old new → LeavesStart old new → KeepsHistory part old new
start_keeps part old new kept leaves = record {
  image = λ file now was is. same_bodies part now file (kept.bodies file now was is);
  same = λ file was some. kept.same file was (long_of file some);
  crash = λ file is. weaker old new (HasBodiesOf old.may_leave) (HoldsOneOf part old.may_leave) (leaves file is)
      (λ c has. (has.0, has.1, record { begun = λ some none. some (sym has.2 ∙ none); starts = has.3; history = same_bodies part c has.0 has.2 }));
}

pub start_stretch : (part : PartData) (old new : Told) → KeepsBodies old new → LeavesStart old new → WentOn old new → new.faults ≡ old.faults → TakesStrokes old new → new.clock ≤ old.clock + 3 → Stretch part old new (start_strokes old.image) ⊥
start_stretch part old new kept leaves went same takes most = record {
  runs = record {
    within = made_strokes old new takes most old.image refl;
    done = λ _. went;
    struck = λ none. absurd none;
    safe = λ safe none. none;
    cause = cause_none old new ⊥ same (λ none. none);
    tells = kept.tells;
  };
  keeps = start_keeps part old new kept leaves;
}

pub start_stretch_refused : (part : PartData) (old new : Told) (fault : StartFault) → KeepsBodies old new → LeavesStart old new → StartMeetsPlan old new (fault ≡ starts.DiskFailed) → (IsSafeFor old (start_strokes old.image + 1) → fault ≢ starts.DiskFailed) → HasCause old new (fault ≡ starts.DiskFailed) → (fault ≢ starts.DiskFailed → new.clock ≡ old.clock + 1) →
    Stretch part old new (start_strokes old.image) (fault ≡ starts.DiskFailed)
start_stretch_refused part old new fault kept leaves plan safe cause one = record {
  runs = record {
    within = go fault refl;
    done = plan.done;
    struck = λ fails. ⊎_elim (λ s. inl s) (λ d. inr (d.went_on, d.down)) (plan.struck fails);
    safe = safe;
    cause = cause;
    tells = kept.tells;
  };
  keeps = start_keeps part old new kept leaves;
}
  where
    some : 1 ≤ start_strokes old.image
    some = one_at_least old.image

    found : Struck old new (start_strokes old.image) ⊎ IsFoundDown old new → new.clock ≤ old.clock + start_strokes old.image
    found (inl s) = struck_within old new (start_strokes old.image) s
    found (inr d) = let clock = d.clock in omega (arith, clock, some)

    unfailed : fault ≢ starts.DiskFailed → new.clock ≤ old.clock + start_strokes old.image
    unfailed other = let clock = one other in omega (arith, clock, some)

    go : (f : StartFault) → fault ≡ f → new.clock ≤ old.clock + start_strokes old.image
    go (starts.BadFrame at) is = unfailed (λ e. let no : starts.BadFrame at ≡ starts.DiskFailed = sym is ∙ e in cc no)
    go starts.DiskFailed is = found (plan.struck is)
    go starts.NoMemory is = unfailed (λ e. let no : starts.NoMemory ≡ starts.DiskFailed = sym is ∙ e in cc no)

pub start_still : (old new : Told) (place : ℕ) → is_some new.image ≡ is_some old.image → IsLeft old new place [] → IsStill new
start_still old new place tells left file is =
    let was = told_before new.image old.image file tells is in
    let now = left was.0 was.1 in
    subst (λ f. (c : List ℕ) → new.may_leave c → c ≡ f) (some_is (sym now.1.image ∙ is)) now.1.settled.only

-- THE ANSWERS

pub can_start_of : (old : Told) → IsWhole old → (file : List ℕ) → old.image ≡ Some file → can_start file ≡ true
can_start_of old whole file is = go (nat_lt (length file) 2) refl
  where
    go : (short : Bool) → nat_lt (length file) 2 ≡ short → (short || not (is_broken file)) ≡ true
    go true e = refl
    go false e = let long : 2 ≤ length file = search (rules, e) in ap not (whole file is long)

pub read_fails : (wanted : Result History RecoverFault) (fault : RecoverFault) → IsFault wanted fault → ReadFails wanted (unrecovered_by fault)
read_fails wanted (recovery.Foreign kept names) is = is
read_fails wanted (recovery.BadRecord at first) is = is
read_fails wanted recovery.DiskFailed is = tt
read_fails wanted recovery.NoMemory is = tt

pub start_fails : (part : PartData) (file : List ℕ) (wanted : Result History RecoverFault) (fault : NodeFault) → can_start file ≡ true → history_of part file ≡ wanted → ReadFails wanted fault → StartFails part file fault
start_fails part file wanted (faults.Foreign kept names) can same is = (can, same ∙ is)
start_fails part file wanted (faults.BadRecord at first) can same is = (can, same ∙ is)
start_fails part file wanted (faults.BadFrame at) can same is = absurd is
start_fails part file wanted faults.DiskFailed can same is = tt
start_fails part file wanted faults.NoMemory can same is = tt

pub unstarted_fails : (part : PartData) (old new : Told) (fault : StartFault) → ((at : ℕ) → fault ≡ starts.BadFrame at → IsBadAt old new at) → (file : List ℕ) → old.image ≡ Some file → StartFails part file (unstarted_by fault)
unstarted_fails part old new (starts.BadFrame at) bad file is = let b = bad at refl file is in (b.0, b.1, b.2)
unstarted_fails part old new starts.DiskFailed bad file is = tt
unstarted_fails part old new starts.NoMemory bad file is = tt

-- A JOURNAL THAT IS ANOTHER'S, OR BAD

read_not_ok : {fault : RecoverFault} {h : History} → ◌≡◌ {A = Result History RecoverFault} (Err fault) (Ok h) → ⊥
read_not_ok e = cc

has_body : (part : PartData) (file : List ℕ) {fault : RecoverFault} → history_of part file ≡ Err fault → bodies_of file ≢ []
has_body part file is none = read_not_ok (sym is ∙ none_holds part file none)

pub leaves_unread : (part : PartData) (old new : Told) (fault : NodeFault) → KeepsHistory part old new → ((file : List ℕ) → old.image ≡ Some file → ReadFails (history_of part file) fault) → LeavesBad old new fault
leaves_unread part old new (faults.Foreign kept names) keeps fails = λ file is. keeps.same file is (has_body part file (fails file is))
leaves_unread part old new (faults.BadRecord at first) keeps fails = λ file is. keeps.same file is (has_body part file (fails file is))
leaves_unread part old new (faults.BadFrame at) keeps fails = λ file is. absurd (fails file is)
leaves_unread part old new faults.DiskFailed keeps fails = tt
leaves_unread part old new faults.NoMemory keeps fails = tt

pub leaves_unstarted : (old new : Told) (fault : StartFault) → ((at : ℕ) → fault ≡ starts.BadFrame at → IsBadAt old new at) → LeavesBad old new (unstarted_by fault)
leaves_unstarted old new (starts.BadFrame at) bad = λ file is. (bad at refl file is).3
leaves_unstarted old new starts.DiskFailed bad = tt
leaves_unstarted old new starts.NoMemory bad = tt

pub unstarted_failed : (fault : StartFault) → unstarted_by fault ≡ faults.DiskFailed → fault ≡ starts.DiskFailed
unstarted_failed (starts.BadFrame at) e = cc e
unstarted_failed starts.DiskFailed e = refl
unstarted_failed starts.NoMemory e = cc e

pub unrecovered_failed : (fault : RecoverFault) → unrecovered_by fault ≡ faults.DiskFailed → fault ≡ recovery.DiskFailed
unrecovered_failed (recovery.Foreign kept names) e = cc e
unrecovered_failed (recovery.BadRecord at first) e = cc e
unrecovered_failed recovery.DiskFailed e = refl
unrecovered_failed recovery.NoMemory e = cc e

-- THE STROKES

sums : (short none : Bool) → (short ≡ true → none ≡ true) → (if short then 3 else 1) + (if none then 4 else 0) ≡ (if short then 7 else (if none then 5 else 1))
sums true true so = refl
sums true false so = absurd (true≢false (sym (so refl)))
sums false true so = refl
sums false false so = refl

sums_of : (file : List ℕ) → start_strokes (Some file) + most_head (Some file) ≡ strokes_on file
sums_of file = sums (nat_lt (length file) 2) (has_none (bodies_of file)) (λ short. has_none_of (bodies_of file) (short_none file (let few : length file < 2 = search (rules, short) in few)))

all_strokes : (old mid : Told) → KeepsBodies old mid → (a b : Option (List ℕ)) → old.image ≡ a → mid.image ≡ b → start_strokes a + most_head b ≤ most_on a
all_strokes old mid kept None None was is = omega arith
all_strokes old mid kept None (Some now) was is = let no : true ≡ false = ap (λ (o : Option (List ℕ)). is_some o) (sym is) ∙ kept.tells ∙ ap (λ (o : Option (List ℕ)). is_some o) was in absurd (true≢false no)
all_strokes old mid kept (Some file) None was is = let no : true ≡ false = ap (λ (o : Option (List ℕ)). is_some o) (sym was) ∙ sym kept.tells ∙ ap (λ (o : Option (List ℕ)). is_some o) is in absurd (true≢false no)
all_strokes old mid kept (Some file) (Some now) was is =
    let same : most_head (Some now) ≡ most_head (Some file) = ap (λ (bodies : List (List ℕ)). if has_none bodies then 4 else 0) (kept.bodies file now was is) in
    let all = sums_of file in
    omega (arith, same, all)

pub strokes_then : (old mid new : Told) → KeepsBodies old mid → TakesStrokes old mid → HeadStrokes mid new → (file : List ℕ) → old.image ≡ Some file → new.clock ≡ old.clock + strokes_on file
strokes_then old mid new kept first second file is =
    let here = told_too old.image mid.image kept.tells file is in
    let none : has_none (bodies_of here.0) ≡ has_none (bodies_of file) = ap has_none (kept.bodies file here.0 is here.1) in
    let one : mid.clock ≡ old.clock + (if nat_lt (length file) 2 then 3 else 1) = first file is in
    let two : new.clock ≡ mid.clock + (if has_none (bodies_of file) then 4 else 0) = second here.0 here.1 ∙ ap (λ (b : Bool). mid.clock + (if b then 4 else 0)) none in
    let all = sums_of file in
    omega (arith, one, two, all)

-- OVER AN IMAGE THAT A SERVER LEFT

one_stroke : (file : List ℕ) → bodies_of file ≢ [] → strokes_on file ≡ 1
one_stroke file begun = go (nat_lt (length file) 2) refl
  where
    go : (short : Bool) → nat_lt (length file) 2 ≡ short → ◌≡◌ {A = ℕ} (if short then 7 else (if has_none (bodies_of file) then 5 else 1)) 1
    go true is = absurd (begun (short_none file (let few : length file < 2 = search (rules, is) in few)))
    go false is = ap (λ (none : Bool). if none then 5 else 1) (has_some_of (bodies_of file) begun)

pub reopens : (part : PartData) (old new : Told) (now : History) → RunsFor old new (most_on old.image) ⊥ → ((file : List ℕ) → old.image ≡ Some file → history_of part file ≡ Ok now) → ((file : List ℕ) → old.image ≡ Some file → new.clock ≡ old.clock + strokes_on file) →
    (past : History) (file : List ℕ) → old.image ≡ Some file → Holds part past file → Reopens old new past now
reopens part old new now runs history strokes past file is holds = record {
  history = one_ok (sym (history file is) ∙ holds.history);
  went_on = runs.done (λ none. none);
  clock = strokes file is ∙ ap (λ (n : ℕ). old.clock + n) (one_stroke file holds.begun);
}

unbroken : (file : List ℕ) → can_start file ≡ true → 2 ≤ length file → is_broken file ≡ true → ⊥
unbroken file can long broken = go (nat_lt (length file) 2) refl can
  where
    go : (short : Bool) → nat_lt (length file) 2 ≡ short → (short || not (is_broken file)) ≡ true → ⊥
    go true is ok = let few : length file < 2 = search (rules, is) in absurd (omega (arith, long, few))
    go false is ok = let no : true ≡ false = sym ok ∙ ap not broken in true≢false no

err_not_ok : {fault : RecoverFault} {h : History} → ◌≡◌ {A = Result History RecoverFault} (Err fault) (Ok h) → ⊥
err_not_ok e = cc

why_shut : (part : PartData) (past : History) (file : List ℕ) (fault : NodeFault) → Holds part past file → StartFails part file fault → (fault ≡ faults.DiskFailed) ⊎ (fault ≡ faults.NoMemory)
why_shut part past file (faults.Foreign kept names) holds fails = absurd (err_not_ok (sym fails.1 ∙ holds.history))
why_shut part past file (faults.BadRecord at first) holds fails = absurd (err_not_ok (sym fails.1 ∙ holds.history))
why_shut part past file (faults.BadFrame at) holds fails = absurd (unbroken file holds.starts fails.0 fails.1)
why_shut part past file faults.DiskFailed holds fails = inl refl
why_shut part past file faults.NoMemory holds fails = inr refl

pub stays_shut : (part : PartData) (old new : Told) (fault : NodeFault) → RunsFor old new (most_on old.image) (fault ≡ faults.DiskFailed) → ((file : List ℕ) → old.image ≡ Some file → StartFails part file fault) →
    (past : History) (file : List ℕ) → old.image ≡ Some file → Holds part past file → StaysShut old new fault
stays_shut part old new fault runs fails past file is holds = record {
  why = why_shut part past file fault holds (fails file is);
  runs = subst (λ (n : ℕ). RunsFor old new n (fault ≡ faults.DiskFailed)) (ap most_on is ∙ one_stroke file holds.begun) runs;
}

-- A JOURNAL THAT WAS OPENED, AND WHAT CAME THEN

pub if_ok : {A E : Type 0} (r : Result A E) (P Q : A → Type 0) → ((x : A) → P x → Q x) → IfOk r P → IfOk r Q
if_ok (Ok x) P Q to h = to x h
if_ok (Err e) P Q to h = tt

pub if_ok_all : {A E : Type 0} (r : Result A E) (P Q R S : A → Type 0) → ((x : A) → P x → Q x → R x → S x) → IfOk r P → IfOk r Q → IfOk r R → IfOk r S
if_ok_all (Ok x) P Q R S to p q h = to x p q h
if_ok_all (Err e) P Q R S to p q h = tt

pub if_err_both : {A E : Type 0} (r : Result A E) (P Q R : E → Type 0) → ((e : E) → P e → Q e → R e) → IfErr r P → IfErr r Q → IfErr r R
if_err_both (Ok x) P Q R to p q = tt
if_err_both (Err e) P Q R to p q = to e p q

pub if_err : {A E : Type 0} (r : Result A E) (P Q : E → Type 0) → ((e : E) → P e → Q e) → IfErr r P → IfErr r Q
if_err (Ok x) P Q to h = tt
if_err (Err e) P Q to h = to e h

pub whole_stretch : (part : PartData) (old mid new : Told) (failed : Type 0) → IsLawful mid → KeepsBodies old mid → LeavesStart old mid → WentOn old mid → mid.faults ≡ old.faults → TakesStrokes old mid → mid.clock ≤ old.clock + 3 → Stretch part mid new (most_head mid.image) failed →
    Stretch part old new (most_on old.image) failed
whole_stretch part old mid new failed lawful kept leaves went faults takes most s =
    stretch_more part old new (start_strokes old.image + most_head mid.image) (most_on old.image) failed (all_strokes old mid kept old.image mid.image refl refl)
    (stretch_then part old mid new (start_strokes old.image) (most_head mid.image) ⊥ failed (λ none. none) (made_strokes old mid takes most old.image refl) lawful (start_stretch part old mid kept leaves went faults takes most) s)

pub start_history : (part : PartData) (old mid : Told) → KeepsBodies old mid → (P : Result History RecoverFault → Type 0) → ((file : List ℕ) → mid.image ≡ Some file → P (history_of part file)) → (file : List ℕ) → old.image ≡ Some file → P (history_of part file)
start_history part old mid kept P of file is =
    let here = told_too old.image mid.image kept.tells file is in
    subst P (same_bodies part here.0 file (kept.bodies file here.0 is here.1)) (of here.0 here.1)

pub refused_here : (part : PartData) (old mid : Told) (fault : NodeFault) → KeepsBodies old mid → IsWhole old → ((file : List ℕ) → mid.image ≡ Some file → ReadFails (history_of part file) fault) → (file : List ℕ) → old.image ≡ Some file → StartFails part file fault
refused_here part old mid fault kept whole of file is =
    start_fails part file (history_of part file) fault (can_start_of old whole file is) refl (start_history part old mid kept (λ wanted. ReadFails wanted fault) of file is)
