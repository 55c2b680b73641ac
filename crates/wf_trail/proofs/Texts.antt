-- Which answers may be told.
use Rattle.std.proofs.Common.{◌≡◌, ℕ, suc, ◌+◌, ◌-◌, ◌<◌, ◌≤◌, ◌⊎◌, ◌↔◌, inl, inr, Bool, true, false, nat_le, cond, List, [], ◌∷◌, ◌++◌, length, get_or, take, drop, Option, Some, None, Result, Ok, Err, refl, sym, ap, ◌∙◌, subst, arith, true≢false}
use Rattle.std.specs.Prelude.{IsOk, IfErr, IsErrAnd, IsErrOf, MatchResult, option_map}
use Rattle.std.proofs.lemmas.List.{take_all}
use Rattle.wf_model.specs.Ids.{unit_id}
use Rattle.wf_model.specs.declared.ids.UnitId.{UnitId}
use Rattle.wf_model.specs.declared.chart.Chart.{Chart}
use Rattle.wf_histories.specs.Histories.{History}
use Rattle.wf_steps.specs.Room.{Replicated}
use Rattle.wf_steps.specs.declared.fault.RecoverFault.{RecoverFault}
use Rattle.wf_steps.specs.declared.fault.RecoverFault.TheVariants as steps
use Rattle.wf_trail.specs.declared.fault.TrailFault.{TrailFault}
use Rattle.wf_trail.specs.declared.fault.TrailFault.TheVariants as f
use Rattle.wf_trail.specs.TrailText.{unit_text}
use Rattle.wf_trail.specs.Shelves.{IsOfDisk, IsOfUnits}
use Rattle.wf_trail.specs.Images.{MayTell, text_by, and_rest, fault_at, trail_from}
use Rattle.wf_trail.specs.Telling.{IsFree, TellsBy, TellsBoth, TellsUnit}

-- BY WHAT IS FOUND ON A DISK

pub found_tells : (chart : Chart) (unit : UnitId) (kept : Option Replicated) (text : List ℕ) → text ≡ unit_text chart unit.0 (option_map (λ (r : Replicated). r.past) kept) →
    TellsBy chart unit.0 (Ok kept) (Ok text)
found_tells chart unit kept text is = λ wanted found. ap (text_by chart unit.0) found ∙ ap (λ (t : List ℕ). Ok t) (sym is)

fault_tells : (chart : Chart) (unit : UnitId) (fault : RecoverFault) → TellsBy chart unit.0 (Err fault) (Err (fault_at unit fault))
fault_tells chart unit (steps.Foreign kept names) = λ wanted found. ap (text_by chart unit.0) found
fault_tells chart unit (steps.BadRecord at first) = λ wanted found. ap (text_by chart unit.0) found
fault_tells chart unit steps.DiskFailed = λ wanted found. tt
fault_tells chart unit steps.NoMemory = λ wanted found. tt

-- what is told of what was found
pub record IsTold (chart : Chart) (u : UnitId) (kept : Result (Option Replicated) RecoverFault) (told : Result (List ℕ) TrailFault) : Type 0 where
  pub text : TellsBy chart u.0 kept told
  pub cause : IsErrAnd told IsOfDisk ↔ IsErrOf kept steps.DiskFailed
  pub unit : (units : ℕ) → u.0 < units → IfErr told (IsOfUnits units)

-- a fault of a unit's journal is a disk's exactly if it says so
fault_is : (unit : UnitId) (fault : RecoverFault) → IsOfDisk (fault_at unit fault) ↔ (fault ≡ steps.DiskFailed)
fault_is unit (steps.Foreign kept names) = (λ of. absurd of, λ is. cc)
fault_is unit (steps.BadRecord at first) = (λ of. absurd of, λ is. cc)
fault_is unit steps.DiskFailed = (λ of. refl, λ is. tt)
fault_is unit steps.NoMemory = (λ of. absurd of, λ is. cc)

-- it names the unit
fault_unit : (units : ℕ) (unit : UnitId) (fault : RecoverFault) → unit.0 < units → IsOfUnits units (fault_at unit fault)
fault_unit units unit (steps.Foreign kept names) within = within
fault_unit units unit (steps.BadRecord at first) within = within
fault_unit units unit steps.DiskFailed within = within
fault_unit units unit steps.NoMemory within = tt

err_is : {x y : RecoverFault} → ◌≡◌ {A = Result (Option Replicated) RecoverFault} (Err x) (Err y) → x ≡ y
err_is e = cc e

ok_not_failed : (kept : Option Replicated) → ◌≡◌ {A = Result (Option Replicated) RecoverFault} (Ok kept) (Err steps.DiskFailed) → ⊥
ok_not_failed kept e = cc e

module _ (chart : Chart) (unit : UnitId) (kept : Result (Option Replicated) RecoverFault) where
  found_is_told : (found : Option Replicated) (text : List ℕ) → kept ≡ Ok found → text ≡ unit_text chart unit.0 (option_map (λ (r : Replicated). r.past) found) → IsTold chart unit kept (Ok text)
  found_is_told found text was is =
      subst (λ (k : Result (Option Replicated) RecoverFault). IsTold chart unit k (Ok text)) (sym was)
      (record { text = found_tells chart unit found text is; cause = (λ of. absurd of, λ e. absurd (ok_not_failed found e)); unit = λ units within. tt })

  memory_is_told : (found : Option Replicated) (text : Result (List ℕ) TrailFault) → kept ≡ Ok found → text ≡ Err f.NoMemory → IsTold chart unit kept text
  memory_is_told found text was is =
      subst (λ (t : Result (List ℕ) TrailFault). IsTold chart unit kept t) (sym is)
      (subst (λ (k : Result (Option Replicated) RecoverFault). IsTold chart unit k (Err f.NoMemory)) (sym was)
      (record { text = λ wanted found. tt; cause = (λ of. absurd of, λ e. absurd (ok_not_failed found e)); unit = λ units within. tt }))

  pub kept_is_told : (found : Option Replicated) (text : Result (List ℕ) TrailFault) → kept ≡ Ok found →
      MatchResult text (λ t. t ≡ unit_text chart unit.0 (option_map (λ (r : Replicated). r.past) found)) (λ e. e ≡ f.NoMemory) → IsTold chart unit kept text
  kept_is_told found (Ok text) was is = found_is_told found text was is
  kept_is_told found (Err fault) was is = memory_is_told found (Err fault) was (ap (λ (e : TrailFault). Err e) is)

  pub fault_is_told : (fault : RecoverFault) (told : TrailFault) → kept ≡ Err fault → told ≡ fault_at unit fault → IsTold chart unit kept (Err told)
  fault_is_told fault told was is =
      let both = fault_is unit fault in
      subst (λ (t : TrailFault). IsTold chart unit kept (Err t)) (sym is)
      (subst (λ (k : Result (Option Replicated) RecoverFault). IsTold chart unit k (Err (fault_at unit fault))) (sym was)
      (record {
        text = fault_tells chart unit fault;
        cause = (λ of. ap (λ (r : RecoverFault). Err r) (both.0 of), λ e. both.1 (err_is e));
        unit = λ units within. fault_unit units unit fault within;
      }))

-- OF TWO TEXTS

-- the first one's fault is told
first_fault_tells : (fault : TrailFault) (rest : Result (List ℕ) TrailFault) → TellsBoth (Err fault) rest (Err fault)
first_fault_tells (f.DiskFailed unit) rest = λ one others a b. tt
first_fault_tells (f.Foreign unit kept names) rest = λ one others a b. ap (λ (r : Result (List ℕ) TrailFault). and_rest r others) a
first_fault_tells (f.Bad unit at first) rest = λ one others a b. ap (λ (r : Result (List ℕ) TrailFault). and_rest r others) a
first_fault_tells f.TooLong rest = λ one others a b. ap (λ (r : Result (List ℕ) TrailFault). and_rest r others) a
first_fault_tells f.NoMemory rest = λ one others a b. tt

-- after a text the other one's
second_fault_tells : (text : List ℕ) (fault : TrailFault) → TellsBoth (Ok text) (Err fault) (Err fault)
second_fault_tells text (f.DiskFailed unit) = λ one others a b. tt
second_fault_tells text (f.Foreign unit kept names) = λ one others a b. ap (λ (r : Result (List ℕ) TrailFault). and_rest r others) a ∙ ap (and_rest (Ok text)) b
second_fault_tells text (f.Bad unit at first) = λ one others a b. ap (λ (r : Result (List ℕ) TrailFault). and_rest r others) a ∙ ap (and_rest (Ok text)) b
second_fault_tells text f.TooLong = λ one others a b. ap (λ (r : Result (List ℕ) TrailFault). and_rest r others) a ∙ ap (and_rest (Ok text)) b
second_fault_tells text f.NoMemory = λ one others a b. tt

both_tell : (text rest whole : List ℕ) → whole ≡ text ++ rest → TellsBoth (Ok text) (Ok rest) (Ok whole)
both_tell text rest whole is = λ one others a b.
    ap (λ (r : Result (List ℕ) TrailFault). and_rest r others) a ∙ ap (and_rest (Ok text)) b ∙ ap (λ (t : List ℕ). Ok t) (sym is)

-- what is made of two texts
pub record IsBoth (first rest whole : Result (List ℕ) TrailFault) : Type 0 where
  pub text : TellsBoth first rest whole
  pub cause : IsErrAnd whole IsOfDisk → (IsErrAnd first IsOfDisk) ⊎ (IsErrAnd rest IsOfDisk)
  pub both : IsOk whole → IsOk first × IsOk rest
  pub unit : (units : ℕ) → IfErr first (IsOfUnits units) → IfErr rest (IsOfUnits units) → IfErr whole (IsOfUnits units)

at_first : (fault : TrailFault) (rest : Result (List ℕ) TrailFault) → IsBoth (Err fault) rest (Err fault)
at_first fault rest = record {
  text = first_fault_tells fault rest;
  cause = λ of. inl of;
  both = λ ok. absurd (true≢false (sym ok));
  unit = λ units a b. a;
}

at_second : (text : List ℕ) (fault : TrailFault) → IsBoth (Ok text) (Err fault) (Err fault)
at_second text fault = record {
  text = second_fault_tells text fault;
  cause = λ of. inr of;
  both = λ ok. absurd (true≢false (sym ok));
  unit = λ units a b. b;
}

without_memory : (text rest : Result (List ℕ) TrailFault) → IsBoth text rest (Err f.NoMemory)
without_memory text rest = record {
  text = λ one others a b. tt;
  cause = λ of. absurd of;
  both = λ ok. absurd (true≢false (sym ok));
  unit = λ units a b. tt;
}

at_end : (text rest whole : List ℕ) → whole ≡ text ++ rest → IsBoth (Ok text) (Ok rest) (Ok whole)
at_end text rest whole is = record {
  text = both_tell text rest whole is;
  cause = λ of. absurd of;
  both = λ ok. (refl, refl);
  unit = λ units a b. tt;
}

module _ (text rest whole : Result (List ℕ) TrailFault) where
  pub first_fails : (fault : TrailFault) → text ≡ Err fault → whole ≡ Err fault → IsBoth text rest whole
  first_fails fault a is =
      subst (λ (r : Result (List ℕ) TrailFault). IsBoth text rest r) (sym is)
      (subst (λ (r : Result (List ℕ) TrailFault). IsBoth r rest (Err fault)) (sym a) (at_first fault rest))

  pub second_fails : (one : List ℕ) (fault : TrailFault) → text ≡ Ok one → rest ≡ Err fault → whole ≡ Err fault → IsBoth text rest whole
  second_fails one fault a b is =
      subst (λ (r : Result (List ℕ) TrailFault). IsBoth text rest r) (sym is)
      (subst (λ (r : Result (List ℕ) TrailFault). IsBoth r rest (Err fault)) (sym a)
      (subst (λ (r : Result (List ℕ) TrailFault). IsBoth (Ok one) r (Err fault)) (sym b) (at_second one fault)))

  pub memory_fails : whole ≡ Err f.NoMemory → IsBoth text rest whole
  memory_fails is = subst (λ (r : Result (List ℕ) TrailFault). IsBoth text rest r) (sym is) (without_memory text rest)

  pub both_stand : (one other all : List ℕ) → text ≡ Ok one → rest ≡ Ok other → whole ≡ Ok all → all ≡ one ++ other → IsBoth text rest whole
  both_stand one other all a b is joined =
      subst (λ (r : Result (List ℕ) TrailFault). IsBoth text rest r) (sym is)
      (subst (λ (r : Result (List ℕ) TrailFault). IsBoth r rest (Ok all)) (sym a)
      (subst (λ (r : Result (List ℕ) TrailFault). IsBoth (Ok one) r (Ok all)) (sym b) (at_end one other all joined)))

-- the text of the units from one on
pub from_tells : (chart : Chart) (images : List ℕ → List ℕ) (u : ℕ) (name : List ℕ) (names : List (List ℕ)) (image : Option (List ℕ)) (rest whole : Result (List ℕ) TrailFault) →
    TellsUnit chart u image rest whole → image ≡ Some (images name) → MayTell (trail_from chart images (u + 1) names) rest →
    MayTell (trail_from chart images u (name ∷ names)) whole
unfolding trail_from
from_tells chart images u name names image rest whole tells is others =
    tells (images name) (trail_from chart images (suc u) names) is
    (subst (λ (n : ℕ). MayTell (trail_from chart images n names) rest) (let e : u + 1 ≡ suc u = omega arith in e) others)

-- a first name, and those behind it
pub names_split : (names : List (List ℕ)) (name : List ℕ) → 1 ≤ length names → name ≡ get_or names 0 name → names ≡ name ∷ take (length names - 1) (drop 1 names)
names_split [] name some is = absurd (omega arith)
names_split (x ∷ xs) name some is =
    let all : length xs ≤ suc (length xs) - 1 = omega arith in
    ap (λ (y : List ℕ). y ∷ xs) (sym is) ∙ ap (λ (ys : List (List ℕ)). name ∷ ys) (sym (take_all (suc (length xs) - 1) xs all))

pub no_names : (names : List (List ℕ)) → length names < 1 → names ≡ []
no_names [] none = refl
no_names (x ∷ xs) none = absurd (omega arith)

pub none_tell : (chart : Chart) (images : List ℕ → List ℕ) (u : ℕ) (text : List ℕ) → text ≡ [] → MayTell (trail_from chart images u []) (Ok text)
unfolding trail_from
none_tell chart images u text is = ap (λ (t : List ℕ). Ok t) (sym is)

-- what is free may be told in any case
pub free_tells : (wanted : Result (List ℕ) TrailFault) (fault : TrailFault) → IsFree fault → MayTell wanted (Err fault)
free_tells wanted (f.DiskFailed unit) free = tt
free_tells wanted (f.Foreign unit kept names) free = absurd free
free_tells wanted (f.Bad unit at first) free = absurd free
free_tells wanted f.TooLong free = absurd free
free_tells wanted f.NoMemory free = tt
