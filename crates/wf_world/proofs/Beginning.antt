-- A fleet to which nothing was done.
use Rattle.std.proofs.Common.{◌≡◌, ℕ, zero, suc, ◌+◌, ◌≤◌, List, [], ◌∷◌, ◌++◌, map, length, slice_get, Some, None, refl, sym, ap, ap₂, ◌∙◌, subst, arith, ◌⊎◌, inl, inr}
use Rattle.std.specs.List.{range_with_len, AllByRecursion}
use Rattle.wf_model.specs.declared.chart.Chart.{Chart}
use Rattle.wf_model.specs.Accepted.{IsAccepted}
use Rattle.wf_parts.specs.declared.data.PartData.{PartData}
use Rattle.wf_parts.specs.Parts.{part_of}
use Rattle.wf_machine.specs.Machine.{first_machine}
use Rattle.wf_machine.specs.Account.{IsAccount}
use Rattle.wf_machine.specs.Postings.{IsPosted, records}
use Rattle.wf_machine.proofs.Accounts.{first_account}
use Rattle.wf_machine.proofs.Posting.{posted_holds}
use Rattle.wf_histories.specs.Histories.{Admission, History}
use Rattle.wf_slot.specs.Units.{UnitState, server_of, new_unit}
use Rattle.wf_slot.specs.Slots.{SlotState, unit_of, server}
use Rattle.wf_world.specs.Machines.{machine_of}
use Rattle.wf_world.specs.Sounds.{IsSound}
use Rattle.wf_world.specs.Fleets.{FleetState, units_of, machine_at, IsFleet, ahead, AreWorn, IsNew, AreNew}
use Rattle.wf_worlds.specs.Ends.{IsShort}
use Rattle.wf_world.proofs.Starting.{first_units, first_is, first_units_sound}

none_some : {A : Type 0} (x : A) → None ≡ Some x → ⊥
none_some x e = cc

some_same : {A : Type 0} (x y : A) → Some x ≡ Some y → x ≡ y
some_same x y e = cc

-- ONE MORE

-- what is there with one more was there, or is that one
pub one_more : {A : Type 0} (xs : List A) (y : A) (u : ℕ) (x : A) → slice_get (xs ++ y ∷ []) u ≡ Some x → (slice_get xs u ≡ Some x) ⊎ ((u ≡ length xs) × (y ≡ x))
one_more [] y zero x e = inr (refl, some_same y x e)
one_more [] y (suc u) x e = absurd (none_some x e)
one_more (z ∷ zs) y zero x e = inl e
one_more (z ∷ zs) y (suc u) x e = elim (one_more zs y u x e) [
  | inl old ↦ inl old
  | inr new ↦ inr (ap suc new.0, new.1)
]

-- a slot that was started
pub new_is : (chart : Chart) (u : ℕ) (part : PartData) (s : SlotState) → part ≡ part_of chart u → s.part ≡ part → unit_of s ≡ new_unit part.unit.0 → s.doubt ≡ None → s.clock ≤ 7 → IsNew chart u s
unfolding part_of
new_is chart u part s is same unit certain clock = record {
  part = same ∙ is;
  unit = unit ∙ ap (λ (p : PartData). new_unit p.unit.0) is;
  certain = certain;
  clock = clock;
}

pub new_push : (chart : Chart) (slots : List SlotState) (s : SlotState) → AreNew chart slots → IsNew chart (length slots) s → AreNew chart (slots ++ s ∷ [])
new_push chart slots s are it u x at = elim (one_more slots s u x at) [
  | inl old ↦ are u x old
  | inr new ↦ subst (λ (v : ℕ). IsNew chart v x) (sym new.0) (subst (λ (y : SlotState). IsNew chart (length slots) y) new.1 it)
]

-- THE UNITS ARE THE FIRST ONES

units_from : (slots : List SlotState) (k : ℕ) → ((v : ℕ) (s : SlotState) → slice_get slots v ≡ Some s → unit_of s ≡ new_unit (k + v)) → units_of slots ≡ map new_unit (range_with_len k (length slots))
units_from [] k each = refl
units_from (s ∷ slots) k each =
    let off : k + 0 ≡ k = omega arith in
    ap₂ (λ (x : UnitState) (xs : List UnitState). x ∷ xs) (each 0 s refl ∙ ap new_unit off)
    (units_from slots (k + 1) (λ v x at. let next : k + suc v ≡ (k + 1) + v = omega arith in each (suc v) x at ∙ ap new_unit next))

module _ (chart : Chart) (ok : IsAccepted chart) (slots : List SlotState) (count : length slots ≡ length chart.units) (are : AreNew chart slots) where
  abbrev begun : FleetState
  begun = record { chart = chart; slots = slots; messages = [] }

  units_are : units_of slots ≡ first_units (length chart.units)
  units_are = units_from slots 0 (λ v s at. let off : v ≡ 0 + v = omega arith in (are v s at).unit ∙ ap new_unit off) ∙ ap (λ (n : ℕ). map new_unit (range_with_len 0 n)) count

  pub begun_machine : machine_at begun ≡ first_machine chart
  begun_machine = ap (λ (units : List UnitState). machine_of units []) units_are ∙ first_is chart

  pub begun_fleet : IsFleet begun
  begun_fleet = record {
    accepted = ok;
    count = count;
    each = λ u s at. record {
      part = (are u s at).part;
      doubt = λ r e. absurd (none_some r (sym (are u s at).certain ∙ e));
      short = let P : History → Type 0 = λ h. AllByRecursion (λ (a : Admission). IsShort a.outer) h.admissions in subst P (sym (ap (λ (x : UnitState). x.past) (are u s at).unit)) tt;
    };
    sound = let P : List UnitState → Type 0 = λ units. IsSound chart units in subst P (sym units_are) (first_units_sound chart ok);
    letters = tt;
    account = subst IsAccount (sym begun_machine) (first_account chart);
    posted = subst IsPosted (sym begun_machine) (posted_holds chart [] []);
    few = omega arith;
  }

  pub begun_worn : AreWorn (λ u. 0) slots
  begun_worn u s at =
      let new = are u s at in
      let clock = new.clock in
      let works : ahead s.health ≡ 0 = ap (λ (x : UnitState). ahead x.health) new.unit in
      let none : records (server s) ≡ 0 = ap (λ (x : UnitState). records (server_of x)) new.unit in
      record { clock = omega (arith, clock, works); records = omega (arith, none) }
