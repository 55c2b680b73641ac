-- A unit by its seat, and the unit of a world that it is.
use Rattle.std.proofs.Common.{◌≡◌, ◌≢◌, ◌⊎◌, inl, inr, ℕ, zero, suc, ◌+◌, ◌==◌, nat_lt, if◌then◌else◌, Bool, true, false, [], Option, Some, None, option_map, refl, sym, ap, ap₂, ◌∙◌, subst, true≢false}
use Rattle.std.specs.Prelude.{◌↔◌, IsTrue}
use Rattle.wf_model.specs.declared.update.Update.{Update}
use Rattle.wf_disk.specs.declared.arm.Arm.{Arm}
use Rattle.wf_disk.specs.declared.arm.Arm.TheVariants.{Fail, Crash}
use Rattle.wf_machine.specs.Server.{Failed, IsDown, Record as Counted, doubted}
use Rattle.wf_histories.specs.Histories.{History, taken}
use Rattle.wf_worlds.specs.Worlds.{Record}
use Rattle.wf_disk.specs.Memory.{Held}
use Rattle.wf_server.specs.Servers.{Server, held_in}
use Rattle.wf_slot.specs.declared.fuse.Fuse.{Fuse as Kept}
use Rattle.wf_slot.specs.declared.slot.Doubt.{Doubt}
use Rattle.wf_slot.specs.declared.slot.Remains.{Remains}
use Rattle.wf_slot.specs.declared.slot.Seat.{Seat}
use Rattle.wf_slot.specs.declared.slot.Seat.TheVariants.{Up, Down, Away}
use Rattle.wf_slot.specs.Units.{none_held, down, struck}
use Rattle.wf_slot.specs.Slots.{SlotState, held, counted_record, unit_of, fallen}
use Rattle.wf_slot.specs.Answers.{HoldsLess, Breaks}
use Rattle.wf_slot.specs.Seats.{health_by, state_of, IsSlot}
use Rattle.wf_slot.specs.Writes.{struck_at}

-- A SEAT THAT IS KNOWN

module _ (seat there : Seat) (fuse : Option Kept) (doubt : Option Doubt) (is : seat ≡ there) where
  pub seen : (now : SlotState) → state_of seat fuse doubt ≡ now → now ≡ state_of there fuse doubt
  seen now view = sym view ∙ ap (λ (s : Seat). state_of s fuse doubt) is

  pub sits : IsSlot seat fuse doubt → IsSlot there fuse doubt
  sits kept = subst (λ (s : Seat). IsSlot s fuse doubt) is kept

-- a seat isn't empty between two calls
pub not_away : (seat : Seat) (fuse : Option Kept) (doubt : Option Doubt) → IsSlot seat fuse doubt → seat ≡ Away → ⊥
not_away seat fuse doubt kept is = subst (λ (s : Seat). IsSlot s fuse doubt) is kept

-- whether it is down

pub is_up : (failed : Bool) → health_by failed ≢ IsDown
is_up true e = cc
is_up false e = cc

module _ (seat : Seat) (fuse : Option Kept) (doubt : Option Doubt) (now : SlotState) (view : state_of seat fuse doubt ≡ now) where
  pub not_down : (node : Server Held) → seat ≡ Up node → now.health ≢ IsDown
  not_down node is down_now = is_up node.journal.failed (sym (ap (λ (s : SlotState). s.health) (seen seat (Up node) fuse doubt is now view)) ∙ down_now)

  pub went_down : (remains : Remains) → seat ≡ Down remains → now.health ≡ IsDown
  went_down remains is = ap (λ (s : SlotState). s.health) (seen seat (Down remains) fuse doubt is now view)

  pub up_says_no : (node : Server Held) → seat ≡ Up node → IsTrue false ↔ (now.health ≡ IsDown)
  up_says_no node is = (λ t. absurd (true≢false (sym t)), λ e. absurd (not_down node is e))

  pub down_says_yes : (remains : Remains) → seat ≡ Down remains → IsTrue true ↔ (now.health ≡ IsDown)
  down_says_yes remains is = (λ t. went_down remains is, λ e. refl)

-- NOTHING IS HELD

pub none_is : (f : ℕ → ℕ → Option Update) → ((v j : ℕ) → f v j ≡ None) → f ≡ none_held
none_is f none = λ i v j. none v j i

nothing_in : (v : ℕ) → held_in [] v ≡ None
nothing_in zero = refl
nothing_in (suc v) = refl

none_by : (b : Bool) (x y : Option Update) → x ≡ None → y ≡ None → (if b then x else y) ≡ None
none_by true x y none other = none
none_by false x y none other = other

pub fallen_holds : (slot : SlotState) (v j : ℕ) → held (fallen slot) v j ≡ None
fallen_holds slot v j =
    none_by (j == taken slot.past + 1) (held_in [] v) (if j == taken slot.past + 2 then held_in [] v else None) (nothing_in v)
    (none_by (j == taken slot.past + 2) (held_in [] v) None (nothing_in v) refl)

no_update : (update : Update) → None ≡ Some update → ⊥
no_update update e = cc

-- so one that went down holds no more than it held
pub fallen_less : (slot : SlotState) → HoldsLess slot (fallen slot)
fallen_less slot v j update e = absurd (no_update update (sym (fallen_holds slot v j) ∙ e))

-- IT WENT DOWN
pub fallen_unit : (slot : SlotState) → unit_of (fallen slot) ≡ down (unit_of slot)
fallen_unit slot = ap (λ (h : ℕ → ℕ → Option Update). record (unit_of slot) { health = IsDown; held = h }) (none_is (held (fallen slot)) (fallen_holds slot))

-- ITS ARM WENT OFF

counted_by : (past : History) (r : Record) (b : Bool) → option_map (counted_record past) (if b then None else Some r) ≡ (if b then None else Some (counted_record past r))
counted_by past r true = refl
counted_by past r false = refl

counted_doubt : (past : History) (n : ℕ) (r : Record) → option_map (counted_record past) (doubted n r) ≡ doubted n (counted_record past r)
counted_doubt past n r = counted_by past r (nat_lt n 3)

pub struck_unit : (slot : SlotState) (n : ℕ) (what : Arm) (r : Record) (clock : ℕ) → unit_of (struck_at slot n what r clock) ≡ struck (unit_of slot) n what (counted_record slot.past r)
struck_unit slot n Fail r clock = ap (λ (d : Option Counted). record (unit_of slot) { health = Failed; fuse = None; doubt = d }) (counted_doubt slot.past n r)
struck_unit slot n (Crash outcome) r clock =
    ap₂ (λ (h : ℕ → ℕ → Option Update) (d : Option Counted). record (unit_of slot) { health = IsDown; held = h; fuse = None; doubt = d })
    (none_is (held (fallen slot)) (fallen_holds slot)) (counted_doubt slot.past n r)

doubt_by : (r : Record) (b : Bool) → ((if b then None else Some r) ≡ None) ⊎ ((if b then None else Some r) ≡ Some r)
doubt_by r true = inl refl
doubt_by r false = inr refl

pub struck_breaks : (slot : SlotState) (n : ℕ) (what : Arm) (r : Record) (clock : ℕ) → Breaks slot r (struck_at slot n what r clock)
struck_breaks slot n Fail r clock = record { past = refl; held = λ v j update e. e; doubt = doubt_by r (nat_lt n 3) }
struck_breaks slot n (Crash outcome) r clock = record { past = refl; held = fallen_less slot; doubt = doubt_by r (nat_lt n 3) }
