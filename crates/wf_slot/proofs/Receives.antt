-- What becomes of an update that comes to a unit that is up.
use Rattle.std.proofs.Common.{◌≡◌, ◌≢◌, ℕ, ◌==◌, ◌&&◌, if◌then◌else◌, Bool, true, false, Option, Some, None, Result, Ok, Err, refl, sym, ap, ◌∙◌, subst, arith, eqb-true, eq-eqb, true≢false}
use Rattle.wf_model.specs.declared.update.Update.{Update}
use Rattle.wf_disk.specs.Memory.{Held}
use Rattle.wf_machine.specs.declared.reply.Reply.{Reply}
use Rattle.wf_machine.specs.declared.reply.Reply.TheVariants as reply
use Rattle.wf_machine.specs.Server.{IsDown}
use Rattle.wf_server.specs.declared.fault.Received.{Received}
use Rattle.wf_server.specs.declared.fault.Received.TheVariants as received
use Rattle.wf_server.specs.declared.fault.ReceiveFault.{ReceiveFault}
use Rattle.wf_server.specs.declared.fault.ReceiveFault.TheVariants as faults
use Rattle.wf_server.specs.Servers.{Server}
use Rattle.wf_server.specs.Receiving.{ReceiveAnswers as NodeAnswers, Holding}
use Rattle.wf_slot.specs.declared.fuse.Fuse.{Fuse as Kept}
use Rattle.wf_slot.specs.declared.slot.Doubt.{Doubt}
use Rattle.wf_slot.specs.declared.slot.Remains.{Remains}
use Rattle.wf_slot.specs.declared.slot.Slot.TheInside.{Inside}
use Rattle.wf_slot.specs.declared.slot.Seat.{Seat}
use Rattle.wf_slot.specs.declared.slot.Seat.TheVariants.{Up, Down}
use Rattle.wf_slot.specs.Slots.{SlotState, held}
use Rattle.wf_slot.specs.Answers.{MayCome, ReceiveAnswers}
use Rattle.wf_slot.specs.Seats.{state_of, IsSlot}
use Rattle.wf_slot.proofs.Seats.{is_up, seen, sits, not_down, went_down}

ok_is : {a b : Received} → ◌≡◌ {A = Result Received ReceiveFault} (Ok a) (Ok b) → a ≡ b
ok_is e = cc e

module _ (node : Server Held) (fuse : Option Kept) (doubt : Option Doubt) (update : Update) where
  abbrev here : SlotState
  here = state_of (Up node) fuse doubt

  -- WHAT CAN'T COME
  module _ (may : MayCome here update) where
    pub a_peer : NodeAnswers node update (Err faults.NotPeer) → ⊥
    a_peer other = other may.peer

    pub near : (step : ℕ) → NodeAnswers node update (Err (faults.TooFar step)) → ⊥
    near step far = let close = may.near in let after = far.1 in absurd (omega (arith, close, after))

    pub no_clash : (given : Update) → NodeAnswers node update (Err (faults.Clash given)) → ⊥
    no_clash given clash = clash.2 (may.same clash.0 clash.1.is_held)

    pub no_misfit : NodeAnswers node update (Err faults.Unfit) → ⊥
    no_misfit unfit = unfit.1 may.fit

  -- IT STAYS AS IT IS

  pub old_comes : NodeAnswers node update (Ok received.Old) → ReceiveAnswers here update reply.Old here
  old_comes is = (is_up node.journal.failed, is.1, refl)

  pub same_comes : NodeAnswers node update (Ok received.Same) → ReceiveAnswers here update reply.Same here
  same_comes is = (record { up = is_up node.journal.failed; later = is.later; is_held = is.is_held }, refl)

  -- IT HOLDS IT
  module _ (new : Server Held) (holding : Holding node new update) where
    abbrev there : SlotState
    there = state_of (Up new) fuse doubt

    rest : there ≡ record here { came = there.came; early = there.early }
    rest =
        let P : Server Held → Type 0 = λ s. state_of (Up s) fuse doubt ≡ record here { came = s.came; early = s.early } in
        subst P (sym holding.rest) refl

    differs : (a b : ℕ) → (a == b) ≡ false → a ≢ b
    differs a b e same = true≢false (sym (eq-eqb a b same) ∙ e)

    holds_by : (v step : ℕ) (b c : Bool) → (v == update.from.0) ≡ b → (step == update.step) ≡ c → held there v step ≡ (if b && c then Some update else held here v step)
    holds_by v step true true e f =
        ap (λ (w : ℕ). held there w step) (eqb-true v update.from.0 e) ∙ ap (held there update.from.0) (eqb-true step update.step f) ∙ holding.this
    holds_by v step true false e f = holding.steps v step (differs step update.step f)
    holds_by v step false c e f = holding.units v step (differs v update.from.0 e)

    pub fresh_comes : NodeAnswers node update (Ok received.Fresh) → ReceiveAnswers here update reply.Fresh there
    fresh_comes is = (
      record { up = is_up node.journal.failed; later = is.0.later; is_held = is.0.is_held },
      record { rest = rest; held = λ v step. holds_by v step (v == update.from.0) (step == update.step) refl refl },
    )

    pub sits_on : IsSlot (Up node) fuse doubt → IsSlot (Up new) fuse doubt
    sits_on kept = let P : Server Held → Type 0 = λ s. IsSlot (Up s) fuse doubt in subst P (sym holding.rest) kept

-- BY THE SERVER'S ANSWER
module _ (node new : Server Held) (update : Update) (result : Result Received ReceiveFault) (answer : NodeAnswers node update result) where
  said : (x : Result Received ReceiveFault) → result ≡ x → NodeAnswers node update x
  said x is = subst (λ (r : Result Received ReceiveFault). NodeAnswers node update r) is answer

  module _ (kept : (result ≡ Ok received.Fresh → ⊥) → new ≡ node) where
    as_before : (r : Received) → result ≡ Ok r → (r ≡ received.Fresh → ⊥) → new ≡ node
    as_before r is other = kept (λ e. other (ok_is (sym is ∙ e)))

    pub old_answers : result ≡ Ok received.Old → (fuse : Option Kept) (doubt : Option Doubt) → ReceiveAnswers (state_of (Up node) fuse doubt) update reply.Old (state_of (Up new) fuse doubt)
    old_answers is fuse doubt =
        let P : Server Held → Type 0 = λ s. ReceiveAnswers (state_of (Up node) fuse doubt) update reply.Old (state_of (Up s) fuse doubt) in
        subst P (sym (as_before received.Old is (λ e. cc e))) (old_comes node fuse doubt update (said (Ok received.Old) is))

    pub same_answers : result ≡ Ok received.Same → (fuse : Option Kept) (doubt : Option Doubt) → ReceiveAnswers (state_of (Up node) fuse doubt) update reply.Same (state_of (Up new) fuse doubt)
    same_answers is fuse doubt =
        let P : Server Held → Type 0 = λ s. ReceiveAnswers (state_of (Up node) fuse doubt) update reply.Same (state_of (Up s) fuse doubt) in
        subst P (sym (as_before received.Same is (λ e. cc e))) (same_comes node fuse doubt update (said (Ok received.Same) is))

    pub sits_still : (r : Received) → result ≡ Ok r → (r ≡ received.Fresh → ⊥) → (fuse : Option Kept) (doubt : Option Doubt) → IsSlot (Up node) fuse doubt → IsSlot (Up new) fuse doubt
    sits_still r is other fuse doubt slot = let P : Server Held → Type 0 = λ s. IsSlot (Up s) fuse doubt in subst P (sym (as_before r is other)) slot

  pub fresh_answers : result ≡ Ok received.Fresh → (result ≡ Ok received.Fresh → Holding node new update) → (fuse : Option Kept) (doubt : Option Doubt) → ReceiveAnswers (state_of (Up node) fuse doubt) update reply.Fresh (state_of (Up new) fuse doubt)
  fresh_answers is holding fuse doubt = fresh_comes node fuse doubt update new (holding is) (said (Ok received.Fresh) is)

  pub fresh_sits : result ≡ Ok received.Fresh → (result ≡ Ok received.Fresh → Holding node new update) → (fuse : Option Kept) (doubt : Option Doubt) → IsSlot (Up node) fuse doubt → IsSlot (Up new) fuse doubt
  fresh_sits is holding fuse doubt slot = sits_on node fuse doubt update new (holding is) slot

  module _ (may : MayCome (state_of (Up node) None None) update) where
    pub not_peer : result ≡ Err faults.NotPeer → ⊥
    not_peer is = a_peer node None None update may (said (Err faults.NotPeer) is)

    pub not_far : (step : ℕ) → result ≡ Err (faults.TooFar step) → ⊥
    not_far step is = near node None None update may step (said (Err (faults.TooFar step)) is)

    pub not_clash : (given : Update) → result ≡ Err (faults.Clash given) → ⊥
    not_clash given is = no_clash node None None update may given (said (Err (faults.Clash given)) is)

    pub not_unfit : result ≡ Err faults.Unfit → ⊥
    not_unfit is = no_misfit node None None update may (said (Err faults.Unfit) is)

-- what may come to a unit may come to it whatever its fuse and its doubt
pub may_here : (seat : Seat) (node : Server Held) (fuse : Option Kept) (doubt : Option Doubt) (now : SlotState) (update : Update) → state_of seat fuse doubt ≡ now → seat ≡ Up node → (now.health ≢ IsDown → MayCome now update) → MayCome (state_of (Up node) None None) update
may_here seat node fuse doubt now update view is may =
    let here : MayCome (state_of (Up node) fuse doubt) update = subst (λ (s : SlotState). MayCome s update) (seen seat (Up node) fuse doubt is now view) (may (not_down seat fuse doubt now view node is)) in
    record { peer = here.peer; near = here.near; same = here.same; fit = here.fit }

-- and what is answered there is answered here
module _ (was next : Inside) (now : SlotState) (update : Update) (view : state_of was.seat was.fuse was.doubt ≡ now) where
  module _ (node new : Server Held) (is : was.seat ≡ Up node) (did : next ≡ record was { seat = Up new }) where
    pub up_slot : IsSlot was.seat was.fuse was.doubt → ((f : Option Kept) (d : Option Doubt) → IsSlot (Up node) f d → IsSlot (Up new) f d) → IsSlot next.seat next.fuse next.doubt
    up_slot kept on =
        let P : Inside → Type 0 = λ s. IsSlot s.seat s.fuse s.doubt in
        subst P (sym did) (on was.fuse was.doubt (sits was.seat (Up node) was.fuse was.doubt is kept))

    pub up_answers : (r result : Reply) → result ≡ r → ((f : Option Kept) (d : Option Doubt) → ReceiveAnswers (state_of (Up node) f d) update r (state_of (Up new) f d)) → ReceiveAnswers now update result (state_of next.seat next.fuse next.doubt)
    up_answers r result result_is answers =
        let P : Inside → Type 0 = λ s. ReceiveAnswers now update r (state_of s.seat s.fuse s.doubt) in
        let Q : SlotState → Type 0 = λ s. ReceiveAnswers s update r (state_of (Up new) was.fuse was.doubt) in
        let R : Reply → Type 0 = λ x. ReceiveAnswers now update x (state_of next.seat next.fuse next.doubt) in
        subst R (sym result_is) (subst P (sym did) (subst Q (sym (seen was.seat (Up node) was.fuse was.doubt is now view)) (answers was.fuse was.doubt)))

  -- one that is down stays as it is
  module _ (remains : Remains) (is : was.seat ≡ Down remains) (did : next ≡ was) where
    pub down_slot : IsSlot was.seat was.fuse was.doubt → IsSlot next.seat next.fuse next.doubt
    down_slot kept = let P : Inside → Type 0 = λ s. IsSlot s.seat s.fuse s.doubt in subst P (sym did) kept

    pub down_answers : (result : Reply) → result ≡ reply.Down → ReceiveAnswers now update result (state_of next.seat next.fuse next.doubt)
    down_answers result result_is =
        let R : Reply → Type 0 = λ x. ReceiveAnswers now update x (state_of next.seat next.fuse next.doubt) in
        subst R (sym result_is)
        (went_down was.seat was.fuse was.doubt now view remains is, ap (λ (s : Inside). state_of s.seat s.fuse s.doubt) did ∙ view)
