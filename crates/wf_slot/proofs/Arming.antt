-- A unit whose disk is armed anew, or loses its arm.
use Rattle.std.proofs.Common.{◌≡◌, ℕ, ◌+◌, ◌≤◌, List, Option, Some, None, refl, sym, ap, ap₂, ◌∙◌, subst, arith}
use Rattle.wf_model.specs.Faults.{last_count}
use Rattle.wf_disk.specs.declared.arm.Arm.{Arm}
use Rattle.wf_disk.specs.Memory.{Held, told_of, armed, disarmed}
use Rattle.wf_server.specs.Servers.{Server}
use Rattle.wf_slot.specs.declared.fuse.Fuse.{Fuse as Kept}
use Rattle.wf_slot.specs.declared.slot.Doubt.{Doubt}
use Rattle.wf_slot.specs.declared.slot.Remains.{Remains}
use Rattle.wf_slot.specs.declared.slot.Seat.{Seat}
use Rattle.wf_slot.specs.declared.slot.Seat.TheVariants.{Up, Down}
use Rattle.wf_slot.specs.Fuses.{fuse_of, IsFused}
use Rattle.wf_slot.specs.Slots.{SlotState}
use Rattle.wf_slot.specs.Seats.{state_of, IsSlot}
use Rattle.wf_slot.proofs.Fuses.{armed_is, unarmed_is, runs_on}
use Rattle.wf_slot.proofs.Seats.{seen, sits}

-- a disk with that arm, or with none

pub armed_fused : (fuse : Option Kept) (stroke : ℕ) (what : Arm) → 1 ≤ stroke → stroke ≤ 1000 → (d : Held) → IsFused (told_of d) (fuse_of fuse) → d.clock + 2000 ≤ last_count →
    IsFused (told_of (armed d stroke what)) (fuse_of (Some (record { left = stroke; what = what })))
armed_fused fuse stroke what some short d lit early = armed_is d stroke what (runs_on d (fuse_of fuse) lit (omega (arith, early))) some (omega (arith, early, short))

pub disarmed_fused : (fuse : Option Kept) (d : Held) → IsFused (told_of d) (fuse_of fuse) → d.clock + 2000 ≤ last_count → IsFused (told_of (disarmed d)) (fuse_of None)
disarmed_fused fuse d lit early = unarmed_is (disarmed d) (runs_on d (fuse_of fuse) lit (omega (arith, early))) refl

-- A CHANGE of the disk that keeps its clock and its bytes
module _ (change : Held → Held) (clock : (d : Held) → (change d).clock ≡ d.clock) (leaves : (d : Held) (file : List ℕ) → (told_of (change d)).may_leave file → (told_of d).may_leave file) (fuse rest : Option Kept)
    (fused : (d : Held) → IsFused (told_of d) (fuse_of fuse) → d.clock + 2000 ≤ last_count → IsFused (told_of (change d)) (fuse_of rest))
    (seat : Seat) (doubt : Option Doubt) (now : SlotState) (view : state_of seat fuse doubt ≡ now) (kept : IsSlot seat fuse doubt) (early : now.clock + 2000 ≤ last_count) (next : Seat) (still : Option Doubt) (same : still ≡ doubt) where
  -- of a unit that is up
  module _ (node new : Server Held) (is : seat ≡ Up node) (did : new ≡ record node { journal = record node.journal { disk = change node.journal.disk } }) (is_next : next ≡ Up new) where
    at_first : now ≡ state_of (Up node) fuse doubt
    at_first = seen seat (Up node) fuse doubt is now view

    was : IsSlot (Up node) fuse doubt
    was = sits seat (Up node) fuse doubt is kept

    early_here : node.journal.disk.clock + 2000 ≤ last_count
    early_here = subst (λ (s : SlotState). s.clock + 2000 ≤ last_count) at_first early

    pub up_slot : IsSlot next rest still
    up_slot =
        let P : Server Held → Type 0 = λ s. IsSlot (Up s) rest doubt in
        let here : IsSlot (Up new) rest doubt = subst P (sym did)
        (record { fused = fused node.journal.disk was.0.fused early_here; leaves = λ file may. was.0.leaves file (leaves node.journal.disk file may) }, was.1) in
        subst (λ (d : Option Doubt). IsSlot next rest d) (sym same) (subst (λ (s : Seat). IsSlot s rest doubt) (sym is_next) here)

    pub up_state : state_of next rest still ≡ record now { fuse = fuse_of rest }
    up_state =
        ap₂ (λ (s : Seat) (d : Option Doubt). state_of s rest d) is_next same
        ∙ ap (λ (s : Server Held). state_of (Up s) rest doubt) did
        ∙ ap (λ (c : ℕ). record (state_of (Up node) rest doubt) { clock = c }) (clock node.journal.disk)
        ∙ sym (ap (λ (s : SlotState). record s { fuse = fuse_of rest }) at_first)

  -- of one that is down
  module _ (remains new : Remains) (is : seat ≡ Down remains) (did : new ≡ record remains { disk = change remains.disk }) (is_next : next ≡ Down new) where
    at_last : now ≡ state_of (Down remains) fuse doubt
    at_last = seen seat (Down remains) fuse doubt is now view

    left : IsSlot (Down remains) fuse doubt
    left = sits seat (Down remains) fuse doubt is kept

    early_there : remains.disk.clock + 2000 ≤ last_count
    early_there = subst (λ (s : SlotState). s.clock + 2000 ≤ last_count) at_last early

    pub down_slot : IsSlot next rest still
    down_slot =
        let P : Remains → Type 0 = λ r. IsSlot (Down r) rest doubt in
        let here : IsSlot (Down new) rest doubt = subst P (sym did)
        (record { fused = fused remains.disk left.0.fused early_there; leaves = λ file may. left.0.leaves file (leaves remains.disk file may) }, left.1) in
        subst (λ (d : Option Doubt). IsSlot next rest d) (sym same) (subst (λ (s : Seat). IsSlot s rest doubt) (sym is_next) here)

    pub down_state : state_of next rest still ≡ record now { fuse = fuse_of rest }
    down_state =
        ap₂ (λ (s : Seat) (d : Option Doubt). state_of s rest d) is_next same
        ∙ ap (λ (r : Remains). state_of (Down r) rest doubt) did
        ∙ ap (λ (c : ℕ). record (state_of (Down remains) rest doubt) { clock = c }) (clock remains.disk)
        ∙ sym (ap (λ (s : SlotState). record s { fuse = fuse_of rest }) at_last)
