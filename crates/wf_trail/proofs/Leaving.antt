-- What a trail leaves of a shelf, after the disk of one unit more went out and came back.
use Rattle.std.proofs.Common.{◌≡◌, ◌≢◌, ℕ, ◌+◌, ◌<◌, ◌≤◌, ◌⊎◌, inl, inr, Bool, true, false, List, Option, Some, None, Result, Ok, Err, refl, sym, ap, ◌∙◌, subst, arith, true≢false}
use Rattle.std.specs.Prelude.{is_some, is_err, IsTrue, IsOk, IsErr, IfErr, IsSome, IfSome, IsErrAnd}
use Rattle.std.specs.Str.{bytes_eq}
use Rattle.std.proofs.lemmas.Slice.Eq.{bytes_eq-Decides}
use Rattle.wf_model.specs.Faults.{Rose}
use Rattle.wf_model.specs.declared.fault.Failed.{Failed}
use Rattle.wf_model.specs.declared.ids.UnitId.{UnitId}
use Rattle.wf_disk.specs.Disk.{Told, HasCause}
use Rattle.wf_disk.specs.Shelf.{ShelfTold, KeepsDisk, IsTaken, ShelfHasCause, FailsAtReturn}
use Rattle.wf_trail.specs.declared.fault.TrailFault.{TrailFault}
use Rattle.wf_trail.specs.declared.shelf.Trails.{Trails}
use Rattle.wf_disk.specs.declared.shelf.TakeRefused.{TakeRefused}
use Rattle.wf_disk.specs.declared.shelf.TakeRefused.TheVariants as take
use Rattle.wf_trail.specs.Telling.{ComesBack, IsFree, take_fault, first_loss, HasCauses, NamesUnits}
use Rattle.wf_trail.specs.Shelves.{Tells, KeepsDisks, IsOfDisk, IsOfUnits}

-- two names are the same, or they aren't
pub which : (a b : List ℕ) → (a ≡ b) ⊎ (a ≢ b)
which a b = go (bytes_eq a b) refl
  where
    go : (t : Bool) → bytes_eq a b ≡ t → (a ≡ b) ⊎ (a ≢ b)
    go true e = inl ((bytes_eq-Decides a b).0 e)
    go false e = inr (λ same. true≢false (sym ((bytes_eq-Decides a b).1 same) ∙ e))

-- a shelf from which nothing is taken
pub nothing_left : (shelf : ShelfTold) → KeepsDisks shelf shelf
nothing_left shelf = record { image = λ name. refl; taken_at = λ name. refl }

-- nor is anything if a disk isn't handed out
pub refused_keeps : (name : List ℕ) (old new : ShelfTold) → KeepsDisk name old new → ((n : List ℕ) → n ≢ name → KeepsDisk n old new) → KeepsDisks old new
refused_keeps name old new here others = record {
  image = λ n. image n (which n name);
  taken_at = λ n. out n (which n name);
}
  where
    image : (n : List ℕ) → (n ≡ name) ⊎ (n ≢ name) → new.image n ≡ old.image n
    image n (inl is) = subst (λ (m : List ℕ). new.image m ≡ old.image m) (sym is) here.image
    image n (inr other) = (others n other).image

    out : (n : List ℕ) → (n ≡ name) ⊎ (n ≢ name) → new.taken_at n ≡ old.taken_at n
    out n (inl is) = subst (λ (m : List ℕ). new.taken_at m ≡ old.taken_at m) (sym is) here.taken_at
    out n (inr other) = (others n other).taken_at

-- after a disk went out the shelf tells the others as before
pub tells_others : (name : List ℕ) (old taken : ShelfTold) (disk : Told) (images : List ℕ → List ℕ) → IsTaken name old taken disk →
    ((n : List ℕ) → n ≢ name → KeepsDisk n old taken) → Tells old images → Tells taken images
tells_others name old taken disk images goes others tells n stands = go (which n name)
  where
    go : (n ≡ name) ⊎ (n ≢ name) → taken.image n ≡ Some (images n)
    go (inl is) = let out : taken.taken_at n ≡ Some disk.moment = subst (λ (m : List ℕ). taken.taken_at m ≡ Some disk.moment) (sym is) goes.out in cc
    go (inr other) = (others n other).image ∙ tells n (sym (others n other).taken_at ∙ stands)

-- a disk that went out is out until it is given back
pub is_out : (name : List ℕ) (old taken rest : ShelfTold) (disk : Told) → IsTaken name old taken disk → KeepsDisks taken rest → IsTrue (is_some (rest.taken_at name))
is_out name old taken rest disk goes keeps = ap (λ (o : Option ℕ). is_some o) (keeps.taken_at name ∙ goes.out)

-- the disk of this name went out, others were taken and given back, and it comes back with its image
module _ (name : List ℕ) (old taken rest given : ShelfTold) (disk : Told) (goes : IsTaken name old taken disk) (others : (n : List ℕ) → n ≢ name → KeepsDisk n old taken)
    (keeps : KeepsDisks taken rest) (back : ComesBack name rest given disk) where
  image_kept : (n : List ℕ) → (n ≡ name) ⊎ (n ≢ name) → given.image n ≡ old.image n
  image_kept n (inl is) = subst (λ (m : List ℕ). given.image m ≡ old.image m) (sym is) (back.image ∙ goes.image)
  image_kept n (inr other) = (back.others n other).image ∙ keeps.image n ∙ (others n other).image

  taken_at_kept : (n : List ℕ) → (n ≡ name) ⊎ (n ≢ name) → given.taken_at n ≡ old.taken_at n
  taken_at_kept n (inl is) = subst (λ (m : List ℕ). given.taken_at m ≡ old.taken_at m) (sym is) (back.stands ∙ sym goes.stood)
  taken_at_kept n (inr other) = (back.others n other).taken_at ∙ keeps.taken_at n ∙ (others n other).taken_at

  pub all_kept : KeepsDisks old given
  all_kept = record { image = λ n. image_kept n (which n name); taken_at = λ n. taken_at_kept n (which n name) }

-- a disk that isn't handed out: memory ran out, or the shelf failed

pub take_is_free : (unit : UnitId) (refused : TakeRefused) → IsFree (take_fault unit refused)
take_is_free unit take.Failed = tt
take_is_free unit take.NoMemory = tt

pub take_failed : (unit : UnitId) (refused : TakeRefused) → IsOfDisk (take_fault unit refused) → refused ≡ take.Failed
take_failed unit take.Failed of = refl
take_failed unit take.NoMemory of = absurd of

pub take_unit : (units : ℕ) (unit : UnitId) (refused : TakeRefused) → unit.0 < units → IsOfUnits units (take_fault unit refused)
take_unit units unit take.Failed within = within
take_unit units unit take.NoMemory within = tt

-- a disk that isn't taken back: that of this unit, or of one behind it
lost_unit : (units : ℕ) (unit : UnitId) (lost : Option UnitId) (given : Result (Unit {0}) Failed) → unit.0 < units → IfSome lost (λ u. u.0 < units) →
    IfSome (first_loss unit lost given) (λ u. u.0 < units)
lost_unit units unit lost (Ok done) within behind = behind
lost_unit units unit lost (Err failed) within behind = within

-- no unit is named where none is told of
pub none_named : (units : ℕ) (text : List ℕ) → NamesUnits units (record { text = Ok text; lost = None })
none_named units text = record { text = tt; lost = tt }

pub one_more_named : (units : ℕ) (unit : UnitId) (text : Result (List ℕ) TrailFault) (lost : Option UnitId) (behind : Trails) (given : Result (Unit {0}) Failed) → unit.0 < units →
    (IfErr behind.text (IsOfUnits units) → IfErr text (IsOfUnits units)) → lost ≡ first_loss unit behind.lost given → NamesUnits units behind →
    NamesUnits units (record { text = text; lost = lost })
one_more_named units unit text lost behind given within both is named = record {
  text = both named.text;
  lost = subst (λ (o : Option UnitId). IfSome o (λ u. u.0 < units)) (sym is) (lost_unit units unit behind.lost given within named.lost);
}

-- COUNTS OF FAULTS

-- no unit, no fault
pub none_causes : (shelf : ShelfTold) (text : List ℕ) → HasCauses shelf.faults shelf.faults (record { text = Ok text; lost = None })
none_causes shelf text = record {
  later = omega arith;
  text = λ fault. absurd fault;
  lost = λ some. absurd (true≢false (sym some));
  kept = λ ok none. refl;
}

rose_before : (a b c : ℕ) → a ≤ b → Rose b c → Rose a c
rose_before a b c le rose = omega arith

pub rose_after : (a b c : ℕ) → Rose a b → b ≤ c → Rose a c
rose_after a b c rose le = omega arith

pub rose_on : (old taken rest given : ℕ) → taken ≡ old → Rose taken rest → rest ≤ given → Rose old given
rose_on old taken rest given same rose le = rose_after old rest given (subst (λ (n : ℕ). Rose n rest) same rose) le

-- it rose if a disk failed, or wasn't taken back
pub ends_rose : (old new : ℕ) (trail : Trails) → HasCauses old new trail → (IsErrAnd trail.text IsOfDisk) ⊎ (IsSome trail.lost) → Rose old new
ends_rose old new trail causes (inl failed) = causes.text failed
ends_rose old new trail causes (inr lost) = causes.lost lost

-- a disk that had failed before it was given back
failed_before : (old new : Told) (F : Type 0) → HasCause old new F → old.faults ≡ 0 → F → 0 < new.faults
failed_before old new F cause none failure = let r = cause.rose failure in omega (arith, none, r)

sound_before : (old new : Told) (F : Type 0) → HasCause old new F → old.faults ≡ 0 → (F → ⊥) → new.faults ≡ 0
sound_before old new F cause none sound = cause.kept sound ∙ none

ok_is_none : {E : Type 0} (P : E → Type 0) (r : Result (List ℕ) E) → IsOk r → IsErrAnd r P → ⊥
ok_is_none P (Ok x) ok err = err
ok_is_none P (Err e) ok err = true≢false (sym ok)

-- what the shelf counts of a disk that comes back after those behind it did
module _ (before : ℕ) (rest given : ShelfTold) (disk back : Told) (unit : UnitId) (text : Result (List ℕ) TrailFault) (behind whole : Trails) (gave : Result (Unit {0}) Failed)
    (none : disk.faults ≡ 0) (cause : HasCause disk back (IsErrAnd text IsOfDisk)) (returns : ShelfHasCause rest given (FailsAtReturn (IsErr gave) back))
    (causes : HasCauses before rest.faults behind) where
  later : before ≤ given.faults
  later = let a = causes.later in let b = returns.later in omega (arith, a, b)

  by_rest : Rose before rest.faults → Rose before given.faults
  by_rest rose = rose_after before rest.faults given.faults rose returns.later

  by_return : FailsAtReturn (IsErr gave) back → Rose before given.faults
  by_return fails = rose_before before rest.faults given.faults causes.later (returns.rose fails)

  text_rose : (IsErrAnd text IsOfDisk) ⊎ (IsErrAnd behind.text IsOfDisk) → Rose before given.faults
  text_rose (inl own) = by_return (inr (failed_before disk back (IsErrAnd text IsOfDisk) cause none own))
  text_rose (inr other) = by_rest (causes.text other)

  lost_rose : (g : Result (Unit {0}) Failed) → gave ≡ g → IsSome (first_loss unit behind.lost g) → Rose before given.faults
  lost_rose (Ok done) is some = by_rest (causes.lost some)
  lost_rose (Err failed) is some = by_return (inl (ap is_err is))

  none_fails : (done : Unit {0}) → gave ≡ Ok done → back.faults ≡ 0 → FailsAtReturn (IsErr gave) back → ⊥
  none_fails done is sound (inl refused) = true≢false (sym refused ∙ ap is_err is)
  none_fails done is sound (inr failed) = omega (arith, failed, sound)

  kept : (g : Result (Unit {0}) Failed) → gave ≡ g → IsOk text → IsOk behind.text → first_loss unit behind.lost g ≡ None → given.faults ≡ before
  kept (Ok done) is own other lost =
      let sound : back.faults ≡ 0 = sound_before disk back (IsErrAnd text IsOfDisk) cause none (ok_is_none IsOfDisk text own) in
      returns.kept (none_fails done is sound) ∙ causes.kept other lost
  kept (Err failed) is own other lost = cc

  pub all_causes : (IsErrAnd whole.text IsOfDisk → (IsErrAnd text IsOfDisk) ⊎ (IsErrAnd behind.text IsOfDisk)) → (IsOk whole.text → IsOk text × IsOk behind.text) →
      whole.lost ≡ first_loss unit behind.lost gave → HasCauses before given.faults whole
  all_causes by both lost = record {
    later = later;
    text = λ fault. text_rose (by fault);
    lost = λ some. lost_rose gave refl (subst (λ (o : Option UnitId). IsSome o) lost some);
    kept = λ ok none_lost. let b = both ok in kept gave refl b.0 b.1 (sym lost ∙ none_lost);
  }
