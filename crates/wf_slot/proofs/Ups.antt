-- A unit that is up and works, by its server and its fuse.
use Rattle.std.proofs.Common.{◌≡◌, ◌≢◌, inl, inr, ℕ, ◌+◌, ◌<◌, ◌≤◌, Bool, true, false, Option, None, refl, sym, ap, ap₂, ◌∙◌, subst, arith}
use Rattle.wf_model.specs.Limits.{max_journal, max_steps}
use Rattle.wf_model.specs.Faults.{last_count}
use Rattle.wf_model.specs.declared.outer.Outer.{Outer}
use Rattle.wf_disk.specs.declared.arm.Arm.{Arm}
use Rattle.wf_disk.specs.Memory.{Held}
use Rattle.wf_machine.specs.declared.reply.Reply.{Reply}
use Rattle.wf_machine.specs.declared.reply.Reply.TheVariants as reply
use Rattle.wf_machine.specs.declared.reply.TurnReply.{TurnReply}
use Rattle.wf_machine.specs.declared.reply.TurnReply.TheVariants as turn
use Rattle.wf_machine.specs.Bars.{bar_of, barred, turn_barred}
use Rattle.wf_machine.specs.Server.{Health, Works, Failed, IsDown, doubted}
use Rattle.wf_machine.specs.Lines.{bar_at, asked, admit_by, turn_by}
use Rattle.wf_histories.specs.Histories.{Admission, taken}
use Rattle.wf_worlds.specs.Admitting.{lets_in}
use Rattle.wf_worlds.specs.Worlds.{Record, Admits, Turns}
use Rattle.wf_bridge.specs.Full.{IsNotFull}
use Rattle.wf_server.specs.Servers.{Server, inputs_of}
use Rattle.wf_slot.specs.declared.fuse.Fuse.{Fuse as Kept}
use Rattle.wf_slot.specs.declared.slot.Doubt.{Doubt}
use Rattle.wf_slot.specs.declared.slot.Seat.{Seat}
use Rattle.wf_slot.specs.declared.slot.Seat.TheVariants.{Up}
use Rattle.wf_slot.specs.Slots.{SlotState, unit_of, server, absent}
use Rattle.wf_slot.specs.Answers.{Goes, AdmitWrites, TurnWrites, IsLetIn, Breaks}
use Rattle.wf_slot.specs.Seats.{doubt_of, health_by, state_of, IsKept, IsSlot}
use Rattle.wf_slot.specs.Writes.{up, struck_at, AdmitAnswered, TurnAnswered, AreAllOf, BrokeOff, BreaksTo, IsSpared}
use Rattle.wf_slot.proofs.Admits as admitting
use Rattle.wf_slot.proofs.Turns as turning
use Rattle.wf_slot.proofs.Lines.{admit_down, admit_failed, turn_down, turn_failed}
use Rattle.wf_slot.proofs.Breaking.{broken_state, broken_slot, broken_goes}
use Rattle.wf_slot.proofs.Seats.{seen, sits, struck_breaks}

works_by : (failed : Bool) → health_by failed ≡ Works → failed ≡ false
works_by true e = absurd (failed_not e)
  where
    failed_not : Failed ≡ Works → ⊥
    failed_not e = cc e
works_by false e = refl

module _ (seat : Seat) (fuse : Option Kept) (doubt : Option Doubt) (now : SlotState) (view : state_of seat fuse doubt ≡ now) (kept : IsSlot seat fuse doubt) (works : now.health ≡ Works) (node : Server Held) (is : seat ≡ Up node) where
  at_first : now ≡ state_of (Up node) fuse doubt
  at_first = seen seat (Up node) fuse doubt is now view

  was : IsSlot (Up node) fuse doubt
  was = sits seat (Up node) fuse doubt is kept

  pub healthy : node.journal.failed ≡ false
  healthy = works_by node.journal.failed (sym (ap (λ (s : SlotState). s.health) at_first) ∙ works)

  pub certain : doubt ≡ None
  certain = was.1 healthy

  pub kept_up : IsKept node.part node.past node.journal.disk fuse None
  kept_up = subst (λ (d : Option Doubt). IsKept node.part node.past node.journal.disk fuse d) certain was.0

  pub now_up : now ≡ up node fuse
  now_up = at_first ∙ ap (λ (d : Option Doubt). state_of (Up node) fuse d) certain

  -- what a call asks of the unit holds of its server
  pub early_up : now.clock + 2000 ≤ last_count → node.journal.disk.clock + 2000 ≤ last_count
  early_up early = subst (λ (s : SlotState). s.clock + 2000 ≤ last_count) now_up early

  pub room_up : IsNotFull now.part now.past → IsNotFull node.part node.past
  room_up room = subst (λ (s : SlotState). IsNotFull s.part s.past) now_up room

  pub steps_up : taken now.past < max_steps → taken node.past < max_steps
  steps_up left = subst (λ (s : SlotState). taken s.past < max_steps) now_up left

  pub inputs_up : inputs_of now.came ≡ inputs_of node.came
  inputs_up = ap (λ (s : SlotState). inputs_of s.came) now_up

  -- a call of its server ended, and left it so
  module _ (new : Server Held) (rest : Option Kept) (next : Seat) (then : Option Kept) (still : Option Doubt) (is_next : next ≡ Up new) (is_then : then ≡ rest) (same : still ≡ doubt) where
    next_up : state_of next then still ≡ up new rest
    next_up = ap₂ (λ (s : Seat) (f : Option Kept). state_of s f still) is_next is_then ∙ ap (λ (d : Option Doubt). state_of (Up new) rest d) (same ∙ certain)

    pub answered_slot : IsKept new.part new.past new.journal.disk rest None → IsSlot next then still
    answered_slot good =
        let P : Seat → Option Kept → Option Doubt → Type 0 = λ s f d. IsSlot s f d in
        subst (λ (s : Seat). P s then still) (sym is_next) (subst (λ (f : Option Kept). P (Up new) f still) (sym is_then) (subst (λ (d : Option Doubt). P (Up new) rest d) (sym (same ∙ certain)) (good, λ e. refl)))

    both : (P : SlotState → SlotState → Type 0) → P (up node fuse) (up new rest) → P now (state_of next then still)
    both P holds = subst (λ (s : SlotState). P s (state_of next then still)) (sym now_up) (subst (λ (s : SlotState). P (up node fuse) s) (sym next_up) holds)

    module _ (request : ℕ) (outer : Outer) (r : Reply) (did : AdmitAnswered node fuse request outer new rest r) where
      pub admit_answer : admit_by (bar_at now.health) (asked request (server now).admissions) (lets_in now.part now.past outer) (server now) (record { request = request; outer = outer }) ≡ (r, server (state_of next then still))
      admit_answer = both (λ s t. admit_by (bar_at s.health) (asked request (server s).admissions) (lets_in s.part s.past outer) (server s) (record { request = request; outer = outer }) ≡ (r, server t)) did.answer

      pub admit_writes : AdmitWrites now (record { request = request; outer = outer }) (state_of next then still)
      admit_writes = both (λ s t. AdmitWrites s (record { request = request; outer = outer }) t) did.writes

      pub admit_goes : Goes 4 now (state_of next then still)
      admit_goes = both (λ s t. Goes 4 s t) did.goes

      pub admit_slot : IsSlot next then still
      admit_slot = answered_slot did.kept

    module _ (r : TurnReply) (did : TurnAnswered node fuse new rest r) where
      pub turn_answer : turn_by (bar_at now.health) (absent now) (server now) ≡ (r, server (state_of next then still))
      turn_answer = both (λ s t. turn_by (bar_at s.health) (absent s) (server s) ≡ (r, server t)) did.answer

      pub turn_writes : TurnWrites now (state_of next then still)
      turn_writes = both (λ s t. TurnWrites s t) did.writes

      pub turn_goes : Goes 4 now (state_of next then still)
      turn_goes = both (λ s t. Goes 4 s t) did.goes

      pub turn_slot : IsSlot next then still
      turn_slot = answered_slot did.kept

  -- memory ran out
  pub spared_slot : (new : Server Held) (next : Seat) (then : Option Kept) (still : Option Doubt) → next ≡ Up new → then ≡ None → still ≡ doubt → IsSpared node new → IsSlot next then still
  spared_slot new next then still is_next is_then same spared = answered_slot new None next then still is_next is_then same spared.kept

  -- a write of a record broke off
  module _ (r : Record) (new : Server Held) (hit : Kept) (broke : BrokeOff node fuse r new hit) (next : Seat) (at : BreaksTo new hit.what next) (then : Option Kept) (is_then : then ≡ None) (d : Option Doubt) (d_is : doubt_of d ≡ doubted hit.left r) where
    abbrev after : SlotState
    after = state_of next None d

    then_is : state_of next then d ≡ after
    then_is = ap (λ (f : Option Kept). state_of next f d) is_then

    after_is : after ≡ struck_at (up node fuse) hit.left hit.what r after.clock
    after_is = broken_state node fuse r new hit broke d d_is next hit.what refl at

    whole : (P : SlotState → SlotState → Type 0) → P (up node fuse) after → P now (state_of next then d)
    whole P holds = subst (λ (s : SlotState). P s (state_of next then d)) (sym now_up) (subst (λ (s : SlotState). P (up node fuse) s) (sym then_is) holds)

    pub broke_slot : IsSlot next then d
    broke_slot = subst (λ (f : Option Kept). IsSlot next f d) (sym is_then) (broken_slot node fuse r new hit broke d d_is next hit.what refl at)

    pub broke_goes : Goes 4 now (state_of next then d)
    broke_goes = whole (λ s t. Goes 4 s t) (broken_goes node fuse r new hit broke d d_is next at)

    breaks : Breaks (up node fuse) r after
    breaks = subst (λ (s : SlotState). Breaks (up node fuse) r s) (sym after_is) (struck_breaks (up node fuse) hit.left hit.what r after.clock)

  -- of an admission
  module _ (request : ℕ) (outer : Outer) (letin : IsLetIn (up node fuse) (record { request = request; outer = outer })) (new : Server Held) (hit : Kept) (broke : BrokeOff node fuse (Admits (record { request = request; outer = outer })) new hit)
      (next : Seat) (at : BreaksTo new hit.what next) (then : Option Kept) (is_then : then ≡ None) (d : Option Doubt) (d_is : doubt_of d ≡ doubted hit.left (Admits (record { request = request; outer = outer }))) where
    abbrev a : Admission
    a = record { request = request; outer = outer }

    pub admit_broke_answer : admit_by (bar_at now.health) (asked request (server now).admissions) (lets_in now.part now.past outer) (server now) (record { request = request; outer = outer }) ≡ (barred (bar_of hit.what), server (state_of next then d))
    admit_broke_answer =
        whole (Admits a) new hit broke next at then is_then d d_is
        (λ s t. admit_by (bar_at s.health) (asked request (server s).admissions) (lets_in s.part s.past outer) (server s) (record { request = request; outer = outer }) ≡ (barred (bar_of hit.what), server t))
        (admitting.answers_broke node fuse request outer healthy letin hit (state_of next None d).clock broke.met
        ∙ ap (λ (s : SlotState). (barred (bar_of hit.what), server s)) (sym (after_is (Admits a) new hit broke next at then is_then d d_is)))

    pub admit_broke_writes : AdmitWrites now a (state_of next then d)
    admit_broke_writes =
        whole (Admits a) new hit broke next at then is_then d d_is (λ s t. AdmitWrites s a t)
        (inr (letin, inr (breaks (Admits a) new hit broke next at then is_then d d_is)))

  -- of a turn
  module _ (all : AreAllOf (up node fuse) (inputs_of node.came)) (new : Server Held) (hit : Kept) (broke : BrokeOff node fuse (Turns (inputs_of node.came)) new hit)
      (next : Seat) (at : BreaksTo new hit.what next) (then : Option Kept) (is_then : then ≡ None) (d : Option Doubt) (d_is : doubt_of d ≡ doubted hit.left (Turns (inputs_of node.came))) where
    pub turn_broke_answer : turn_by (bar_at now.health) (absent now) (server now) ≡ (turn_barred (bar_of hit.what), server (state_of next then d))
    turn_broke_answer =
        whole (Turns (inputs_of node.came)) new hit broke next at then is_then d d_is
        (λ s t. turn_by (bar_at s.health) (absent s) (server s) ≡ (turn_barred (bar_of hit.what), server t))
        (turning.answers_broke node fuse healthy all hit (state_of next None d).clock broke.met
        ∙ ap (λ (s : SlotState). (turn_barred (bar_of hit.what), server s)) (sym (after_is (Turns (inputs_of node.came)) new hit broke next at then is_then d d_is)))

    pub turn_broke_writes : TurnWrites now (state_of next then d)
    turn_broke_writes =
        whole (Turns (inputs_of node.came)) new hit broke next at then is_then d d_is (λ s t. TurnWrites s t)
        (inr (inputs_of node.came, all.gathered, inr (breaks (Turns (inputs_of node.came)) new hit broke next at then is_then d d_is)))

-- WHERE IT SITS after its arm went off, as its seat was emptied and filled again

up_is : (a b : Server Held) → ◌≡◌ {A = Seat} (Up a) (Up b) → a ≡ b
up_is a b e = cc

pub breaks_to : (new out : Server Held) (what : Arm) (next seat : Seat) → ◌≡◌ {A = Seat} (Up new) (Up out) → BreaksTo out what seat → next ≡ seat → BreaksTo new what next
breaks_to new out what next seat same at is =
    subst (λ (s : Seat). BreaksTo new what s) (sym is) (subst (λ (s : Server Held). BreaksTo s what seat) (sym (up_is new out same)) at)

-- A UNIT THAT DOESN'T WORK answers so, and stays as it is

only_failed : (h : Health) → h ≢ Works → h ≢ IsDown → h ≡ Failed
only_failed Works works up = absurd (works refl)
only_failed Failed works up = refl
only_failed IsDown works up = absurd (up refl)

module _ (now : SlotState) where
  pub down_admits : (request : ℕ) (outer : Outer) → now.health ≡ IsDown →
      admit_by (bar_at now.health) (asked request (server now).admissions) (lets_in now.part now.past outer) (server now) (record { request = request; outer = outer }) ≡ (reply.Down, server now)
  down_admits request outer is = admit_down (unit_of now) request outer (lets_in now.part now.past outer) is

  pub failed_admits : (request : ℕ) (outer : Outer) → now.health ≢ Works → now.health ≢ IsDown →
      admit_by (bar_at now.health) (asked request (server now).admissions) (lets_in now.part now.past outer) (server now) (record { request = request; outer = outer }) ≡ (reply.Reopen, server now)
  failed_admits request outer works up = admit_failed (unit_of now) request outer (lets_in now.part now.past outer) (only_failed now.health works up)

  pub down_turns : now.health ≡ IsDown → turn_by (bar_at now.health) (absent now) (server now) ≡ (turn.Down, server now)
  down_turns is = turn_down (unit_of now) (absent now) is

  pub failed_turns : now.health ≢ Works → now.health ≢ IsDown → turn_by (bar_at now.health) (absent now) (server now) ≡ (turn.Reopen, server now)
  failed_turns works up = turn_failed (unit_of now) (absent now) (only_failed now.health works up)

  pub same_goes : (most : ℕ) → Goes most now now
  same_goes most = record { part = refl; clock = omega arith }

  pub same_admit_writes : (a : Admission) → AdmitWrites now a now
  same_admit_writes a = inl refl

  pub same_turn_writes : TurnWrites now now
  same_turn_writes = inl refl
