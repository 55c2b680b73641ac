-- A unit that goes down by a crash.
use Rattle.std.proofs.Common.{◌≡◌, ◌≢◌, ℕ, ◌^◌, ◌<◌, List, Option, sym, ap, ap₂, ◌∙◌, subst}
use Rattle.wf_disk.specs.Memory.{Held, told_of}
use Rattle.wf_parts.specs.declared.data.PartData.{PartData}
use Rattle.wf_machine.specs.declared.reply.Reply.TheVariants as reply
use Rattle.wf_machine.specs.Strokes.{Fuse}
use Rattle.wf_machine.specs.Server.{IsDown}
use Rattle.wf_machine.specs.Lines.{crash_by}
use Rattle.wf_histories.specs.Histories.{History, taken}
use Rattle.wf_server.specs.Servers.{Server}
use Rattle.wf_slot.specs.declared.fuse.Fuse.{Fuse as Kept}
use Rattle.wf_slot.specs.declared.slot.Doubt.{Doubt}
use Rattle.wf_slot.specs.declared.slot.Remains.{Remains}
use Rattle.wf_slot.specs.declared.slot.Seat.{Seat}
use Rattle.wf_slot.specs.declared.slot.Seat.TheVariants.{Up, Down}
use Rattle.wf_slot.specs.Units.{UnitState, server_of}
use Rattle.wf_slot.specs.Fuses.{fuse_of, IsFused}
use Rattle.wf_slot.specs.Slots.{SlotState, unit_of, server, fallen}
use Rattle.wf_slot.specs.Seats.{state_of, MayHold, IsSlot}
use Rattle.wf_slot.specs.Writes.{IsLeftOf}
use Rattle.wf_slot.proofs.Lines.{crash_up, crash_down}
use Rattle.wf_slot.proofs.Seats.{seen, sits, not_down, went_down, fallen_unit}

module _ (seat : Seat) (fuse : Option Kept) (doubt : Option Doubt) (now : SlotState) (view : state_of seat fuse doubt ≡ now) (kept : IsSlot seat fuse doubt) where
  -- one that was up
  module _ (node : Server Held) (is : seat ≡ Up node) (remains : Remains) (left : IsLeftOf node remains) (next : Seat) (is_next : next ≡ Down remains) where
    at_first : now ≡ state_of (Up node) fuse doubt
    at_first = seen seat (Up node) fuse doubt is now view

    pub crashed_state : state_of next fuse doubt ≡ fallen now
    crashed_state =
        ap (λ (s : Seat). state_of s fuse doubt) is_next
        ∙ ap₂ (λ (p : PartData) (h : History). record (state_of (Down remains) fuse doubt) { part = p; past = h }) left.part left.past
        ∙ ap (λ (c : ℕ). record (fallen (state_of (Up node) fuse doubt)) { clock = c }) left.clock
        ∙ sym (ap fallen at_first)

    pub crashed_slot : ((f : Option Fuse) → IsFused (told_of node.journal.disk) f → IsFused (told_of remains.disk) f) → taken node.past < 2 ^ 32 → IsSlot next fuse doubt
    crashed_slot fused few =
        let was = sits seat (Up node) fuse doubt is kept in
        let P : PartData → History → List ℕ → Type 0 = λ part past file. MayHold part past doubt file in
        subst (λ (s : Seat). IsSlot s fuse doubt) (sym is_next) (
          record {
            fused = fused (fuse_of fuse) was.0.fused;
            leaves = λ file may. subst (λ (p : PartData). P p remains.past.past file) (sym left.part) (subst (λ (h : History). P node.part h file) (sym left.past) (was.0.leaves file (left.leaves file may)));
          },
          subst (λ (h : History). taken h < 2 ^ 32) (sym left.past) few,
        )

    up_now : now.health ≢ IsDown
    up_now = not_down seat fuse doubt now view node is

    pub crashed_answers : crash_by now.health (server now) ≡ (reply.Crashed, server (state_of next fuse doubt))
    crashed_answers =
        crash_up (unit_of now) up_now
        ∙ ap (λ (u : UnitState). (reply.Crashed, server_of u)) (sym (ap unit_of crashed_state ∙ fallen_unit now))

    pub crashed_not : now.health ≡ IsDown → state_of next fuse doubt ≡ now
    crashed_not is_down = absurd (up_now is_down)

  -- one that is down
  module _ (remains : Remains) (is : seat ≡ Down remains) (next : Seat) (is_next : next ≡ Down remains) where
    pub stays_state : state_of next fuse doubt ≡ now
    stays_state = ap (λ (s : Seat). state_of s fuse doubt) (is_next ∙ sym is) ∙ view

    pub stays_slot : IsSlot next fuse doubt
    stays_slot = subst (λ (s : Seat). IsSlot s fuse doubt) (is ∙ sym is_next) kept

    pub stays_answers : crash_by now.health (server now) ≡ (reply.Down, server (state_of next fuse doubt))
    stays_answers =
        crash_down (unit_of now) (went_down seat fuse doubt now view remains is)
        ∙ ap (λ (s : SlotState). (reply.Down, server s)) (sym stays_state)

    pub stays_not : now.health ≢ IsDown → state_of next fuse doubt ≡ fallen now
    stays_not up = absurd (up (went_down seat fuse doubt now view remains is))
