-- What the calls of a unit that only read tell, by its seat.
use Rattle.std.proofs.Common.{◌≡◌, ℕ, ◌^◌, ◌<◌, Bool, true, false, not, List, length, Option, Some, None, refl, sym, ap, ap₂, ◌∙◌, subst, true≢false}
use Rattle.std.specs.Prelude.{◌↔◌, IsTrue}
use Rattle.std.proofs.lemmas.List.{length-map}
use Rattle.wf_model.specs.declared.ids.ActId.{ActId}
use Rattle.wf_disk.specs.Memory.{Held, told_of, image_of}
use Rattle.wf_disk.specs.MemoryLaws.{lawful_memory}
use Rattle.wf_parts.specs.declared.data.PartData.{PartData}
use Rattle.wf_views.specs.Views.{View}
use Rattle.wf_machine.specs.declared.reply.Sight.{Sight}
use Rattle.wf_machine.specs.Server.{Health, Works, Failed, IsDown}
use Rattle.wf_histories.specs.Histories.{History, taken, local}
use Rattle.wf_bridge.specs.Bridging.{node_sight, node_items}
use Rattle.wf_server.specs.Servers.{Server}
use Rattle.wf_server.specs.Images.{Holds}
use Rattle.wf_slot.specs.declared.fuse.Fuse.{Fuse as Kept}
use Rattle.wf_slot.specs.declared.slot.Doubt.{Doubt}
use Rattle.wf_slot.specs.declared.slot.Remains.{Remains}
use Rattle.wf_slot.specs.declared.slot.Seat.{Seat}
use Rattle.wf_slot.specs.declared.slot.Seat.TheVariants.{Up, Down}
use Rattle.wf_slot.specs.Shown.{shown}
use Rattle.wf_slot.specs.Slots.{SlotState}
use Rattle.wf_slot.specs.Seats.{health_by, state_of, IsSlot}
use Rattle.wf_slot.proofs.Seats.{seen, sits, not_down, went_down}

-- the sight of a server
sight_is : (node : Server Held) (sight : Sight) (part : PartData) (view : View) (steps admitted : ℕ) → sight ≡ shown part view steps admitted →
    part ≡ node.part → view ≡ local node.part node.past (taken node.past) → steps ≡ taken node.past → admitted ≡ length node.past.admissions → sight ≡ node_sight node.part node.past
sight_is node sight part view steps admitted is part_is view_is steps_are admitted_are =
    is ∙ ap₂ (λ (p : PartData) (v : View). shown p v steps admitted) part_is view_is
    ∙ ap₂ (λ (k n : ℕ). shown node.part (local node.part node.past (taken node.past)) k n) steps_are admitted_are

-- how many steps a history took
pub steps_of : (past : History) (n : ℕ) → n ≡ length past.turns → n ≡ taken past
steps_of past n is = is ∙ sym (length-map past.turns (λ turn. turn.sealed))

some_not : {A : Type 0} (x : A) → Some x ≡ None → ⊥
some_not x e = cc e

-- a server works unless its disk failed

failed_not : Failed ≡ Works → ⊥
failed_not e = cc e

works_by : (failed : Bool) → IsTrue (not failed) ↔ (health_by failed ≡ Works)
works_by true = (λ t. absurd (true≢false (sym t)), λ e. absurd (failed_not e))
works_by false = (λ t. refl, λ e. refl)

healthy_by : (failed : Bool) → health_by failed ≡ Works → failed ≡ false
healthy_by true e = absurd (failed_not e)
healthy_by false e = refl

down_not : IsDown ≡ Works → ⊥
down_not e = cc e

pub down_works : (h : Health) → h ≡ IsDown → IsTrue false ↔ (h ≡ Works)
down_works h is = (λ t. absurd (true≢false (sym t)), λ e. absurd (down_not (sym is ∙ e)))

module _ (seat : Seat) (fuse : Option Kept) (doubt : Option Doubt) (now : SlotState) (view : state_of seat fuse doubt ≡ now) where
  -- a unit that is up
  module _ (node : Server Held) (is : seat ≡ Up node) where
    at_first : now ≡ state_of (Up node) fuse doubt
    at_first = seen seat (Up node) fuse doubt is now view

    -- what its server's part and history tell its own tell, and the other way round

    pub of_unit : (P : PartData → History → Type 0) → P node.part node.past → P now.part now.past
    of_unit P there = subst (λ (s : SlotState). P s.part s.past) (sym at_first) there

    pub of_server : (P : PartData → History → Type 0) → P now.part now.past → P node.part node.past
    of_server P here = subst (λ (s : SlotState). P s.part s.past) at_first here

    pub up_sight : (sight : Sight) (part : PartData) (view : View) (steps admitted : ℕ) → sight ≡ shown part view steps admitted → part ≡ node.part → view ≡ local node.part node.past (taken node.past) →
        steps ≡ taken node.past → admitted ≡ length node.past.admissions → sight ≡ node_sight now.part now.past
    up_sight sight part view steps admitted is_shown part_is view_is steps_are admitted_are =
        of_unit (λ (p : PartData) (h : History). sight ≡ node_sight p h) (sight_is node sight part view steps admitted is_shown part_is view_is steps_are admitted_are)

    pub up_items : (items : List (ActId × ℕ × Bool)) → items ≡ node_items node.part node.past → items ≡ node_items now.part now.past
    up_items items items_are = of_unit (λ (p : PartData) (h : History). items ≡ node_items p h) items_are

    -- it shows something
    pub up_shows : {A : Type 0} (x : A) → (Some x ≡ None) ↔ (now.health ≡ IsDown)
    up_shows x = (λ e. absurd (some_not x e), λ e. absurd (not_down seat fuse doubt now view node is e))

    -- it works unless its disk failed
    pub up_works : (failed : Bool) → failed ≡ node.journal.failed → IsTrue (not failed) ↔ (now.health ≡ Works)
    up_works failed failed_is =
        let P : SlotState → Type 0 = λ s. IsTrue (not failed) ↔ (s.health ≡ Works) in
        let Q : Bool → Type 0 = λ b. IsTrue (not b) ↔ (health_by node.journal.failed ≡ Works) in
        subst P (sym at_first) (subst Q (sym failed_is) (works_by node.journal.failed))

    -- the image of a disk that works holds the history
    pub up_holds : now.health ≡ Works →
        (node.journal.failed ≡ false → (file : List ℕ) → (told_of node.journal.disk).image ≡ Some file → (c : List ℕ) → (told_of node.journal.disk).may_leave c → Holds node.part node.past c) →
        (disk : Held) → disk ≡ node.journal.disk → Holds now.part now.past (image_of disk)
    up_holds works stands disk disk_is =
        let P : Held → Type 0 = λ d. Holds node.part node.past (image_of d) in
        of_unit (λ (part : PartData) (past : History). Holds part past (image_of disk))
        (subst P (sym disk_is) (stands (healthy_by node.journal.failed (ap (λ (s : SlotState). s.health) (sym at_first) ∙ works)) (image_of node.journal.disk) refl (image_of node.journal.disk) ((lawful_memory node.journal.disk).stands (image_of node.journal.disk) refl)))

  -- one that is down
  module _ (remains : Remains) (is : seat ≡ Down remains) where
    pub of_remains : (P : PartData → History → Type 0) → P remains.part remains.past.past → P now.part now.past
    of_remains P there = subst (λ (s : SlotState). P s.part s.past) (sym (seen seat (Down remains) fuse doubt is now view)) there

    pub down_shows : {A : Type 0} (o : Option A) → o ≡ None → (o ≡ None) ↔ (now.health ≡ IsDown)
    down_shows o none = (λ e. went_down seat fuse doubt now view remains is, λ e. none)

    pub not_works : now.health ≡ Works → ⊥
    not_works works = down_not (sym (went_down seat fuse doubt now view remains is) ∙ works)

-- a unit that is down took fewer steps than a count holds
pub few_steps : (seat : Seat) (fuse : Option Kept) (doubt : Option Doubt) (remains : Remains) → seat ≡ Down remains → IsSlot seat fuse doubt → (n : ℕ) → n ≡ length remains.past.past.turns → n < 2 ^ 32
few_steps seat fuse doubt remains is kept n n_is =
    subst (λ (k : ℕ). k < 2 ^ 32) (sym (steps_of remains.past.past n n_is)) (sits seat (Down remains) fuse doubt is kept).1
