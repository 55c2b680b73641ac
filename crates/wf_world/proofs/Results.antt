-- Facts of a result that is Ok, put together; and a slot that was read from a fleet.
use Rattle.std.proofs.Common.{◌≡◌, ℕ, ◌<◌, length, get_or, slice_get, unwrap_or, Option, Some, None, [], refl, sym, ap, ◌∙◌, arith}
use Rattle.std.specs.Prelude.{Result, Ok, Err, IfOk, OnOk, IsErrAnd}
use Rattle.std.proofs.lemmas.Option.{slice_get_read}
use Rattle.wf_slot.specs.Slots.{SlotState}
use Rattle.wf_world.specs.Fleets.{FleetState, slot_at, IsFleet, WearsNone, HaveRoom}

pub if_ok : {A E : Type 0} (r : Result A E) (P Q : A → Type 0) → IfOk r P → ((x : A) → P x → Q x) → IfOk r Q
if_ok (Ok x) P Q p follows = follows x p
if_ok (Err e) P Q p follows = tt

pub if_ok2 : {A E : Type 0} (r : Result A E) (P P2 Q : A → Type 0) → IfOk r P → IfOk r P2 → ((x : A) → P x → P2 x → Q x) → IfOk r Q
if_ok2 (Ok x) P P2 Q p p2 follows = follows x p p2
if_ok2 (Err e) P P2 Q p p2 follows = tt

pub if_ok3 : {A E : Type 0} (r : Result A E) (P P2 P3 Q : A → Type 0) → IfOk r P → IfOk r P2 → IfOk r P3 → ((x : A) → P x → P2 x → P3 x → Q x) → IfOk r Q
if_ok3 (Ok x) P P2 P3 Q p p2 p3 follows = follows x p p2 p3
if_ok3 (Err e) P P2 P3 Q p p2 p3 follows = tt

pub some_none : {A : Type 0} (x : A) → Some x ≡ None → ⊥
some_none x e = cc

-- the slot of a unit
pub read_at : (f : FleetState) → IsFleet f → (u : ℕ) (s : SlotState) → u < length f.chart.units → s ≡ get_or f.slots u s → slice_get f.slots u ≡ Some s
read_at f is u s lt read = let count = is.count in slice_get_read f.slots (length f.slots) u s refl (omega (arith, lt, count)) read

pub on_ok : {A E : Type 0} (r : Result A E) (P Q : Type 0) → OnOk r P → (P → Q) → OnOk r Q
on_ok (Ok x) P Q p follows = follows p
on_ok (Err e) P Q p follows = tt

pub on_ok2 : {A E : Type 0} (r : Result A E) (P P2 Q : Type 0) → OnOk r P → OnOk r P2 → (P → P2 → Q) → OnOk r Q
on_ok2 (Ok x) P P2 Q p p2 follows = follows p p2
on_ok2 (Err e) P P2 Q p p2 follows = tt

pub always_ok : {A E : Type 0} (r : Result A E) (Q : Type 0) → Q → OnOk r Q
always_ok (Ok x) Q q = q
always_ok (Err e) Q q = tt

abbrev error_or : {A E : Type 0} → E → Result A E → E
error_or d (Ok x) = d
error_or d (Err e) = e

-- an error that was handed on is the callee's
pub handed_on : {A B E : Type 0} (r : Result A E) (q : Result B E) (x y : E) → q ≡ Err x → IsErrAnd r (λ z. z ≡ x) → r ≡ Err y → q ≡ Err y
handed_on (Ok v) q x y was is e = absurd is
handed_on {A} {B} {E} (Err z) q x y was is e = was ∙ ap (λ (w : E). Err w) (sym is ∙ ap (error_or z) e)

pub slot_is : (f : FleetState) (u : ℕ) (s : SlotState) → slice_get f.slots u ≡ Some s → slot_at f u ≡ s
slot_is f u s at = ap (λ (o : Option SlotState). unwrap_or o (slot_at (record f { slots = [] }) u)) at

-- room stays
pub have_on : (f g : FleetState) → WearsNone f g → HaveRoom f → HaveRoom g
have_on f g worn room = record { n = room.n; few = room.few; worn = worn (λ u. room.n) room.worn }
