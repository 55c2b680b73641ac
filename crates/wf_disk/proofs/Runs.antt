-- How a run of disk calls goes on.
use Rattle.std.proofs.Common.{◌≡◌, inl, inr, ⊎_elim, ℕ, ◌+◌, List, Option, Some, None, IfSome, refl, ◌∙◌, subst, arith}
use Rattle.wf_disk.specs.Disk.{Told, IsSame, Elapses, IsLawful, LeavesOnly, HasCause, KeepsPlan, IsSafeFor}

-- before the first call
pub started : (old : Told) (P : List ℕ → Type 0) → IsLawful old → ((c : List ℕ) → old.may_leave c → P c) → LeavesOnly old old P
started old P law here = record { later = omega arith; each = λ c left. here c (law.only_now c left); before = λ t c le left. inl left }

-- one stroke more, after which a crash leaves what has P
pub goes_on : (old mid new : Told) (P : List ℕ → Type 0) → LeavesOnly old mid P → Elapses mid new → ((c : List ℕ) → new.may_leave c → P c) → LeavesOnly old new P
goes_on old mid new P so_far time here = record {
  later = omega (arith, so_far.later, time.later);
  each = λ c left. ⊎_elim (so_far.each c) (here c) (time.nothing_else old.moment c so_far.later left);
  before = λ t c le left. ⊎_elim (so_far.before t c le) (λ now. inr (here c now)) (time.nothing_else t c (omega (arith, le, so_far.later)) left);
}

-- a call that is no stroke
pub stays : (old mid new : Told) (P : List ℕ → Type 0) → LeavesOnly old mid P → IsSame mid new → LeavesOnly old new P
stays old mid new P so_far same = record {
  later = omega (arith, so_far.later, same.moment);
  each = λ c left. so_far.each c (same.past old.moment c left);
  before = λ t c le left. so_far.before t c le (same.past t c left);
}

-- less is said
pub weaker : (old new : Told) (P Q : List ℕ → Type 0) → LeavesOnly old new P → ((c : List ℕ) → P c → Q c) → LeavesOnly old new Q
weaker old new P Q so_far to = record {
  later = so_far.later;
  each = λ c left. to c (so_far.each c left);
  before = λ t c le left. ⊎_elim (λ was. inl was) (λ has. inr (to c has)) (so_far.before t c le left);
}

-- two runs, one after the other
pub joined : (old mid new : Told) (P : List ℕ → Type 0) → LeavesOnly old mid P → LeavesOnly mid new P → LeavesOnly old new P
joined old mid new P first second = record {
  later = omega (arith, first.later, second.later);
  each = λ c left. ⊎_elim (first.each c) (λ has. has) (second.before old.moment c first.later left);
  before = λ t c le left. ⊎_elim (first.before t c le) (λ has. inr has) (second.before t c (omega (arith, le, first.later)) left);
}

-- a fact of the told image, where it is told
pub if_some : {X : Type 0} → (o : Option X) (P : X → Type 0) → ((x : X) → o ≡ Some x → P x) → IfSome o P
if_some None P all = tt
if_some (Some x) P all = all x refl

pub from_some : {X : Type 0} → (o : Option X) (P : X → Type 0) (x : X) → IfSome o P → o ≡ Some x → P x
from_some {X = X} o P x has is = subst (λ (v : Option X). IfSome v P) is has

pub plan_same : (disk : Told) → KeepsPlan disk disk
plan_same disk = record { kept = λ n fails. fails; no_other = λ n fails. fails; stops_kept = λ n stops. stops; no_other_stop = λ n stops. stops }

pub plan_then : (old mid new : Told) → KeepsPlan old mid → KeepsPlan mid new → KeepsPlan old new
plan_then old mid new first second = record {
  kept = λ n fails. second.kept n (first.kept n fails);
  no_other = λ n fails. first.no_other n (second.no_other n fails);
  stops_kept = λ n stops. second.stops_kept n (first.stops_kept n stops);
  no_other_stop = λ n stops. first.no_other_stop n (second.no_other_stop n stops);
}

pub same_first : (disk : Told) → IsSame disk disk
same_first disk = record { image = refl; clock = refl; moment = refl; crash = λ c now. now; crash_kept = λ c now. now; past = λ t c left. left; past_kept = λ t c left. left; plan = plan_same disk; room = λ writes bytes room. room }

pub same_then : (old mid new : Told) → IsSame old mid → IsSame mid new → IsSame old new
same_then old mid new first second = record {
  image = second.image ∙ first.image;
  clock = second.clock ∙ first.clock;
  moment = second.moment ∙ first.moment;
  crash = λ c now. first.crash c (second.crash c now);
  crash_kept = λ c now. second.crash_kept c (first.crash_kept c now);
  past = λ t c left. first.past t c (second.past t c left);
  past_kept = λ t c left. second.past_kept t c (first.past_kept t c left);
  plan = plan_then old mid new first.plan second.plan;
  room = λ writes bytes room. second.room writes bytes (first.room writes bytes room);
}

-- a cause found late is a cause since an earlier moment
pub cause_since : (old mid new : Told) (F G : Type 0) → mid.faults ≡ old.faults → HasCause mid new F → (G → F) → (F → G) → HasCause old new G
cause_since old mid new F G same cause from to = record {
  later = omega (arith, same, cause.later);
  rose = λ failure. let r = cause.rose (from failure) in omega (arith, same, r);
  kept = λ none. cause.kept (λ failure. none (to failure)) ∙ same;
}

pub cause_none : (old new : Told) (G : Type 0) → new.faults ≡ old.faults → (G → ⊥) → HasCause old new G
cause_none old new G same none = record { later = omega (arith, same); rose = λ failure. absurd (none failure); kept = λ _. same }

-- the next of these strokes doesn't fail, and the rest don't after it
pub safe_now : (disk : Told) (strokes : ℕ) → IsSafeFor disk (strokes + 1) → disk.is_to_fail (disk.clock + 1) → ⊥
safe_now disk strokes safe fails = safe (disk.clock + 1) (omega arith) (omega arith) fails

pub safe_next : (old new : Told) (strokes : ℕ) → IsSafeFor old (strokes + 1) → new.clock ≡ old.clock + 1 → KeepsPlan old new → IsSafeFor new strokes
safe_next old new strokes safe clock plan n later within fails = safe n (omega (arith, later, clock)) (omega (arith, within, clock)) (plan.no_other n fails)
