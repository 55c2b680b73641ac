-- What a call makes of a unit that is up and works, by how the call of its server ended.
use Rattle.std.proofs.Common.{◌≡◌, ℕ, List, Option, Some, None, refl, sym, ap, ◌∙◌, subst}
use Rattle.wf_model.specs.declared.outer.Outer.{Outer}
use Rattle.wf_model.specs.declared.update.Update.{Update}
use Rattle.wf_disk.specs.Memory.{Held}
use Rattle.wf_machine.specs.declared.reply.Reply.{Reply}
use Rattle.wf_machine.specs.declared.reply.TurnReply.{TurnReply}
use Rattle.wf_machine.specs.Bars.{bar_of, barred, turn_barred}
use Rattle.wf_machine.specs.Server.{Works, doubted}
use Rattle.wf_machine.specs.Lines.{bar_at, asked, admit_by, turn_by}
use Rattle.wf_histories.specs.Histories.{Admission}
use Rattle.wf_worlds.specs.Admitting.{lets_in}
use Rattle.wf_worlds.specs.Worlds.{Admits, Turns}
use Rattle.wf_server.specs.Servers.{Server, inputs_of}
use Rattle.wf_slot.specs.declared.fuse.Fuse.{Fuse as Kept}
use Rattle.wf_slot.specs.declared.slot.Doubt.{Doubt}
use Rattle.wf_slot.specs.declared.slot.Remains.{Remains}
use Rattle.wf_slot.specs.declared.slot.Seat.{Seat}
use Rattle.wf_slot.specs.declared.slot.Seat.TheVariants.{Up, Down, Away}
use Rattle.wf_slot.specs.declared.slot.writing.AdmitEnd.{AdmitEnd}
use Rattle.wf_slot.specs.declared.slot.writing.AdmitEnd.TheVariants as admit
use Rattle.wf_slot.specs.declared.slot.stepping.TurnEnd.{TurnEnd}
use Rattle.wf_slot.specs.declared.slot.stepping.TurnEnd.TheVariants as turn
use Rattle.wf_slot.specs.Fuses.{fuse_of}
use Rattle.wf_slot.specs.Slots.{SlotState, server, absent}
use Rattle.wf_slot.specs.Answers.{Goes, AdmitWrites, TurnWrites, IsLetIn}
use Rattle.wf_slot.specs.Seats.{doubt_of, state_of, IsSlot}
use Rattle.wf_slot.specs.Writes.{up, AdmitAnswered, AdmitEnds, TurnAnswered, TurnEnds, AreAllOf, BrokeOff, BreaksTo}
use Rattle.wf_slot.proofs.Ups.{inputs_up, admit_answer, admit_writes, admit_goes, admit_slot, turn_answer, turn_writes, turn_goes, turn_slot, broke_slot, broke_goes, admit_broke_answer, admit_broke_writes, turn_broke_answer, turn_broke_writes, breaks_to}

-- a seat that was up is taken out as it was
pub up_not_down : (node : Server Held) (remains : Remains) → ◌≡◌ {A = Seat} (Up node) (Down remains) → ⊥
up_not_down node remains e = cc

-- an arm that is set
some_fuse : (hit : Kept) → fuse_of (Some hit) ≡ None → ⊥
some_fuse hit e = cc

pub up_not_away : (node : Server Held) → ◌≡◌ {A = Seat} (Up node) Away → ⊥
up_not_away node e = cc

module _ (seat : Seat) (fuse : Option Kept) (doubt : Option Doubt) (now : SlotState) (view : state_of seat fuse doubt ≡ now) (kept : IsSlot seat fuse doubt) (works : now.health ≡ Works) (node : Server Held) (is : seat ≡ Up node) (new : Server Held) (rest : Option Kept) where
  -- AN ADMISSION
  module _ (request : ℕ) (outer : Outer) (end : AdmitEnd) (ends : AdmitEnds node fuse request outer new rest end) where
    abbrev a : Admission
    a = record { request = request; outer = outer }

    -- it was answered
    module _ (r : Reply) (end_is : end ≡ admit.Answered r) where
      did : AdmitAnswered node fuse request outer new rest r
      did = subst (λ (e : AdmitEnd). AdmitEnds node fuse request outer new rest e) end_is ends

      pub admitted_slot : IsSlot (Up new) rest doubt
      admitted_slot = admit_slot seat fuse doubt now view kept works node is new rest (Up new) rest doubt refl refl refl request outer r did

      module _ (after : SlotState) (after_is : after ≡ state_of (Up new) rest doubt) where
        pub admitted_answer : admit_by (bar_at now.health) (asked request (server now).admissions) (lets_in now.part now.past outer) (server now) (record { request = request; outer = outer }) ≡ (r, server after)
        admitted_answer =
            admit_answer seat fuse doubt now view kept works node is new rest (Up new) rest doubt refl refl refl request outer r did
            ∙ ap (λ (s : SlotState). (r, server s)) (sym after_is)

        pub admitted_writes : AdmitWrites now a after
        admitted_writes = subst (λ (s : SlotState). AdmitWrites now a s) (sym after_is) (admit_writes seat fuse doubt now view kept works node is new rest (Up new) rest doubt refl refl refl request outer r did)

        pub admitted_goes : Goes 4 now after
        admitted_goes = subst (λ (s : SlotState). Goes 4 now s) (sym after_is) (admit_goes seat fuse doubt now view kept works node is new rest (Up new) rest doubt refl refl refl request outer r did)

    -- its write broke off, and a copy of the outer is in doubt
    module _ (hit : Kept) (end_is : end ≡ admit.Broke hit) (out : Server Held) (same : ◌≡◌ {A = Seat} (Up new) (Up out)) (there next : Seat) (at : BreaksTo out hit.what there) (next_is : next ≡ there)
        (d : Option Doubt) (copy : Outer) (copy_is : copy ≡ outer) (d_is : doubt_of d ≡ doubted hit.left (Admits (record { request = request; outer = copy }))) where
      broke : IsLetIn (up node fuse) a × BrokeOff node fuse (Admits a) new hit × (rest ≡ None)
      broke = subst (λ (e : AdmitEnd). AdmitEnds node fuse request outer new rest e) end_is ends

      sits_there : BreaksTo new hit.what next
      sits_there = breaks_to new out hit.what next there same at next_is

      doubt_is : doubt_of d ≡ doubted hit.left (Admits a)
      doubt_is = d_is ∙ ap (λ (o : Outer). doubted hit.left (Admits (record { request = request; outer = o }))) copy_is

      pub unadmitted_slot : IsSlot next rest d
      unadmitted_slot = broke_slot seat fuse doubt now view kept works node is (Admits a) new hit broke.1 next sits_there rest broke.2 d doubt_is

      pub unadmitted_answer : (r : Reply) → r ≡ barred (bar_of hit.what) →
          admit_by (bar_at now.health) (asked request (server now).admissions) (lets_in now.part now.past outer) (server now) (record { request = request; outer = outer }) ≡ (r, server (state_of next rest d))
      unadmitted_answer r r_is =
          admit_broke_answer seat fuse doubt now view kept works node is request outer broke.0 new hit broke.1 next sits_there rest broke.2 d doubt_is
          ∙ ap (λ (x : Reply). (x, server (state_of next rest d))) (sym r_is)

      pub unadmitted_writes : AdmitWrites now a (state_of next rest d)
      unadmitted_writes = admit_broke_writes seat fuse doubt now view kept works node is request outer broke.0 new hit broke.1 next sits_there rest broke.2 d doubt_is

      pub unadmitted_goes : Goes 4 now (state_of next rest d)
      unadmitted_goes = broke_goes seat fuse doubt now view kept works node is (Admits a) new hit broke.1 next sits_there rest broke.2 d doubt_is

  -- A TURN
  module _ (end : TurnEnd) (ends : TurnEnds node fuse new rest end) where
    -- it was answered
    module _ (r : TurnReply) (end_is : end ≡ turn.Answered r) where
      took : TurnAnswered node fuse new rest r
      took = subst (λ (e : TurnEnd). TurnEnds node fuse new rest e) end_is ends

      pub turned_slot : IsSlot (Up new) rest doubt
      turned_slot = turn_slot seat fuse doubt now view kept works node is new rest (Up new) rest doubt refl refl refl r took

      pub turned_answer : turn_by (bar_at now.health) (absent now) (server now) ≡ (r, server (state_of (Up new) rest doubt))
      turned_answer = turn_answer seat fuse doubt now view kept works node is new rest (Up new) rest doubt refl refl refl r took

      pub turned_writes : TurnWrites now (state_of (Up new) rest doubt)
      turned_writes = turn_writes seat fuse doubt now view kept works node is new rest (Up new) rest doubt refl refl refl r took

      pub turned_goes : Goes 4 now (state_of (Up new) rest doubt)
      turned_goes = turn_goes seat fuse doubt now view kept works node is new rest (Up new) rest doubt refl refl refl r took

    -- its write broke off, and copies of the updates are in doubt
    module _ (hit : Kept) (end_is : end ≡ turn.Broke hit) (out : Server Held) (same : ◌≡◌ {A = Seat} (Up new) (Up out)) (there next : Seat) (at : BreaksTo out hit.what there) (next_is : next ≡ there)
        (d : Option Doubt) (copies : List Update) (copies_are : (now.fuse ≡ None → ⊥) → copies ≡ inputs_of now.came) (d_is : doubt_of d ≡ doubted hit.left (Turns copies)) where
      abbrev updates : List Update
      updates = inputs_of node.came

      broke_off : AreAllOf (up node fuse) updates × BrokeOff node fuse (Turns updates) new hit × (rest ≡ None) × (fuse ≡ Some hit)
      broke_off = subst (λ (e : TurnEnd). TurnEnds node fuse new rest e) end_is ends

      goes_there : BreaksTo new hit.what next
      goes_there = breaks_to new out hit.what next there same at next_is

      armed : now.fuse ≡ None → ⊥
      armed none =
          let same_fuse : now.fuse ≡ fuse_of fuse = sym (ap (λ (s : SlotState). s.fuse) view) ∙ ap (λ (s : Seat). (state_of s fuse doubt).fuse) is in
          some_fuse hit (ap fuse_of (sym broke_off.3) ∙ sym same_fuse ∙ none)

      in_doubt : doubt_of d ≡ doubted hit.left (Turns updates)
      in_doubt = d_is ∙ ap (λ (us : List Update). doubted hit.left (Turns us)) (copies_are armed ∙ inputs_up seat fuse doubt now view kept works node is)

      pub unturned_slot : IsSlot next rest d
      unturned_slot = broke_slot seat fuse doubt now view kept works node is (Turns updates) new hit broke_off.1 next goes_there rest broke_off.2 d in_doubt

      pub unturned_answer : (r : TurnReply) → r ≡ turn_barred (bar_of hit.what) → turn_by (bar_at now.health) (absent now) (server now) ≡ (r, server (state_of next rest d))
      unturned_answer r r_is =
          turn_broke_answer seat fuse doubt now view kept works node is broke_off.0 new hit broke_off.1 next goes_there rest broke_off.2 d in_doubt
          ∙ ap (λ (x : TurnReply). (x, server (state_of next rest d))) (sym r_is)

      pub unturned_writes : TurnWrites now (state_of next rest d)
      unturned_writes = turn_broke_writes seat fuse doubt now view kept works node is broke_off.0 new hit broke_off.1 next goes_there rest broke_off.2 d in_doubt

      pub unturned_goes : Goes 4 now (state_of next rest d)
      unturned_goes = broke_goes seat fuse doubt now view kept works node is (Turns updates) new hit broke_off.1 next goes_there rest broke_off.2 d in_doubt
