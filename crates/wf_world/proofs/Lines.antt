-- What a line does to the units of a world is what it does to the machine that counts for them.
use Rattle.std.proofs.Common.{◌≡◌, ◌≢◌, ℕ, zero, suc, ◌+◌, ◌<◌, ◌≤◌, ◌==◌, ◌&&◌, ◌||◌, nat_le, not, Bool, true, false, cond, List, ◌++◌, map, filter, length, slice_get, slice_set, Option, Some, None, is_some, option_map, refl, sym, ap, ap₂, ◌∙◌, rules}
use Rattle.std.specs.List.{range_with_len}
use Rattle.std.proofs.lemmas.Bool.{cond-true, cond-false}
use Rattle.std.proofs.lemmas.List.{map-append, length-map}
use Rattle.std.proofs.lemmas.Option.{slice_get-map}
use Rattle.wf_model.specs.declared.ids.UnitId.{UnitId}
use Rattle.wf_model.specs.declared.outer.Outer.{Outer}
use Rattle.wf_model.specs.declared.chart.Chart.{Chart}
use Rattle.wf_model.specs.declared.update.Update.{Update}
use Rattle.wf_disk.specs.declared.arm.Arm.{Arm}
use Rattle.wf_disk.specs.declared.arm.Outcome.{Outcome}
use Rattle.wf_machine.specs.declared.line.Line.TheVariants as line
use Rattle.wf_machine.specs.declared.reply.Reply.{Reply}
use Rattle.wf_machine.specs.declared.reply.Reply.TheVariants as reply
use Rattle.wf_machine.specs.declared.reply.TurnReply.{TurnReply}
use Rattle.wf_machine.specs.Bars.{Bar}
use Rattle.wf_machine.specs.Server.{Health, Works, Failed, IsDown, Server, taken as steps, recovered}
use Rattle.wf_machine.specs.Machine.{CountingMachine, Message, server, with_server, message_at}
use Rattle.wf_machine.specs.Sights.{sight_of, items_of}
use Rattle.wf_machine.specs.Lines.{Acted, done_at, bar_at, unless, asked, lets, admit_by, admit, missing, turn_by, turned as turn_of, crash_by, armed, counts_of, recover_by, show_by, letters, second_of, posted, send_by, send, with_came, received, come_by, deliver_by, deliver, act}
use Rattle.wf_histories.specs.Histories.{taken}
use Rattle.wf_world.specs.declared.mail.Sent.{Sent}
use Rattle.wf_world.specs.Mail.{message_of, sent_at}
use Rattle.wf_slot.specs.Units.{UnitState, counted, server_of}
use Rattle.wf_world.specs.Machines.{machine_of}
use Rattle.wf_slot.proofs.Units.{came_is}
use Rattle.wf_world.proofs.Machines.{server_is, with_is}

abbrev pub acted : Reply → CountingMachine → Acted
acted r after = record { reply = r; after = after }

-- A LINE THAT CHANGES ONE UNIT

module _ (chart : Chart) (units : List UnitState) (messages : List Sent) (u : UnitId) (unit : UnitState) (at : slice_get units u.0 ≡ Some unit) where
  abbrev m : CountingMachine
  m = machine_of units messages

  abbrev with_unit : UnitState → CountingMachine
  with_unit next = machine_of (slice_set units u.0 next) messages

  here : server m u.0 ≡ server_of unit
  here = server_is units messages u.0 unit at

  done : (did : Reply × Server) (r : Reply) (next : UnitState) → did ≡ (r, server_of next) → done_at m u.0 did ≡ acted r (with_unit next)
  done did r next e = ap (done_at m u.0) e ∙ ap (acted r) (with_is units messages u.0 next)

  -- crash
  pub crash_is : (stands : Bool) (outcome : Outcome) (r : Reply) (next : UnitState) → crash_by unit.health (server_of unit) ≡ (r, server_of next) → act chart m stands (line.Crash u outcome) ≡ acted r (with_unit next)
  unfolding act
  crash_is stands outcome r next e = done (crash_by (server m u.0).health (server m u.0)) r next (ap (λ (s : Server). crash_by s.health s) here ∙ e)

  -- arm
  pub arm_is : (stands : Bool) (n : ℕ) (what : Arm) → act chart m stands (line.Arm u n what) ≡ acted reply.Armed (with_unit (record unit { fuse = Some (record { left = n; what = what }) }))
  unfolding act
  arm_is stands n what = done (armed n what (server m u.0)) reply.Armed (record unit { fuse = Some (record { left = n; what = what }) }) (ap (armed n what) here)

  -- recover
  pub recover_is : (stands : Bool) (bar : Option Bar) (next : UnitState) → recovered stands (server_of unit) ≡ (bar, server_of next) →
      act chart m stands (line.Recover u) ≡ acted (unless (reply.Recovered (taken next.past) (length next.past.admissions)) bar) (with_unit next)
  unfolding act
  recover_is stands bar next e =
      done (recover_by (recovered stands (server m u.0))) (unless (counts_of (server_of next)) bar) next (ap (λ (s : Server). recover_by (recovered stands s)) here ∙ ap recover_by e)
      ∙ ap (λ (n : ℕ). acted (unless (reply.Recovered (taken next.past) n) bar) (with_unit next)) (length-map next.past.admissions counted)

  -- admit
  pub admit_is : (stands : Bool) (request : ℕ) (outer : Outer) (r : Reply) (next : UnitState) →
      admit_by (bar_at unit.health) (asked request (map counted unit.past.admissions)) (lets chart m u.0 outer) (server_of unit) (record { request = request; outer = outer }) ≡ (r, server_of next) →
      act chart m stands (line.Admit u request outer) ≡ acted r (with_unit next)
  unfolding act admit
  admit_is stands request outer r next e =
      done (admit_by (bar_at (server m u.0).health) (asked request (server m u.0).admissions) (lets chart m u.0 outer) (server m u.0) (record { request = request; outer = outer })) r next
      (ap (λ (s : Server). admit_by (bar_at s.health) (asked request s.admissions) (lets chart m u.0 outer) s (record { request = request; outer = outer })) here ∙ e)

  -- turn: the peers whose update of the next step isn't held
  abbrev pub absent : List ℕ
  absent = filter (λ v. not (is_some (unit.held v (taken unit.past + 1)))) (filter (λ v. not (v == u.0)) (range_with_len 0 (length units)))

  missing_is : missing m u.0 ≡ absent
  missing_is = ap₂ (λ (s : Server) (n : ℕ). filter (λ v. not (s.came v (steps s + 1))) (filter (λ v. not (v == u.0)) (range_with_len 0 n))) here (length-map units server_of)

  pub turned_is : (r : TurnReply) (next : UnitState) → turn_by (bar_at unit.health) absent (server_of unit) ≡ (r, server_of next) → turn_of m u.0 ≡ (r, server_of next)
  unfolding turn_of
  turned_is r next e = ap₂ (λ (s : Server) (vs : List ℕ). turn_by (bar_at s.health) vs s) here missing_is ∙ e

  pub turn_is : (stands : Bool) (r : TurnReply) (next : UnitState) → turn_by (bar_at unit.health) absent (server_of unit) ≡ (r, server_of next) → act chart m stands (line.Turn u) ≡ acted (reply.Turned r) (with_unit next)
  unfolding act
  turn_is stands r next e = ap (λ (d : TurnReply × Server). acted (reply.Turned d.0) (with_server m u.0 d.1)) (turned_is r next e) ∙ ap (acted (reply.Turned r)) (with_is units messages u.0 next)

  -- show and items
  shows : (h : Health) (r : Reply) → h ≢ IsDown → show_by h r ≡ r
  shows Works r up = refl
  shows Failed r up = refl
  shows IsDown r up = absurd (up refl)

  pub show_up : (stands : Bool) → unit.health ≢ IsDown → act chart m stands (line.Show u) ≡ acted (reply.Shown (sight_of chart m u.0)) m
  unfolding act
  show_up stands up = ap (λ (r : Reply). acted r m) (ap (λ (s : Server). show_by s.health (reply.Shown (sight_of chart m u.0))) here ∙ shows unit.health (reply.Shown (sight_of chart m u.0)) up)

  pub show_down : (stands : Bool) → unit.health ≡ IsDown → act chart m stands (line.Show u) ≡ acted reply.Down m
  unfolding act
  show_down stands is = ap (λ (r : Reply). acted r m) (ap (λ (s : Server). show_by s.health (reply.Shown (sight_of chart m u.0))) here ∙ ap (λ (h : Health). show_by h (reply.Shown (sight_of chart m u.0))) is)

  pub items_up : (stands : Bool) → unit.health ≢ IsDown → act chart m stands (line.Items u) ≡ acted (reply.Items (items_of chart m u.0)) m
  unfolding act
  items_up stands up = ap (λ (r : Reply). acted r m) (ap (λ (s : Server). show_by s.health (reply.Items (items_of chart m u.0))) here ∙ shows unit.health (reply.Items (items_of chart m u.0)) up)

  pub items_down : (stands : Bool) → unit.health ≡ IsDown → act chart m stands (line.Items u) ≡ acted reply.Down m
  unfolding act
  items_down stands is = ap (λ (r : Reply). acted r m) (ap (λ (s : Server). show_by s.health (reply.Items (items_of chart m u.0))) here ∙ ap (λ (h : Health). show_by h (reply.Items (items_of chart m u.0))) is)

  -- send
  sends : (h : Health) (v : ℕ) → h ≢ IsDown → send_by h m u.0 v ≡ posted m u.0 v
  sends Works v up = refl
  sends Failed v up = refl
  sends IsDown v up = absurd (up refl)

  pub send_up : (stands : Bool) (v : UnitId) (xs : List Sent) → unit.health ≢ IsDown → map message_of xs ≡ letters u.0 v.0 (taken unit.past) →
      act chart m stands (line.Send u v) ≡ acted (reply.Sent (length messages + 1) (second_of (length messages) (taken unit.past))) (machine_of units (messages ++ xs))
  unfolding act send
  send_up stands v xs up are =
      ap (λ (s : Server). send_by s.health m u.0 v.0) here
      ∙ sends unit.health v.0 up
      ∙ ap₂ (λ (s : Server) (n : ℕ). acted (reply.Sent (n + 1) (second_of n (steps s))) (record m { messages = m.messages ++ letters u.0 v.0 (steps s) })) here (length-map messages message_of)
      ∙ ap (λ (ms : List Message). acted (reply.Sent (length messages + 1) (second_of (length messages) (taken unit.past))) (record m { messages = ms })) (ap (λ (ms : List Message). map message_of messages ++ ms) (sym are) ∙ sym (map-append message_of messages xs))

  pub send_down : (stands : Bool) (v : UnitId) → unit.health ≡ IsDown → act chart m stands (line.Send u v) ≡ acted reply.Down m
  unfolding act send
  send_down stands v is = ap (λ (s : Server). send_by s.health m u.0 v.0) here ∙ ap (λ (h : Health). send_by h m u.0 v.0) is

  -- deliver, of a message to this unit
  module _ (stands : Bool) (n : ℕ) (x : Sent) (is : sent_at messages n ≡ Some x) (to : x.receiver.0 ≡ u.0) where
    no_message : None ≡ Some x → ⊥
    no_message e = cc

    message_is : (n : ℕ) → sent_at messages n ≡ Some x → message_at m n ≡ Some (message_of x)
    message_is zero e = absurd (no_message e)
    message_is (suc k) e = slice_get-map message_of messages k ∙ ap (option_map message_of) e

    there_is : server m (message_of x).receiver ≡ server_of unit
    there_is = ap (server m) to ∙ here

    delivers : (r : Acted) → come_by unit.health m (message_of x) ≡ r → act chart m stands (line.Deliver n) ≡ r
    unfolding act deliver
    delivers r e = ap (deliver_by m) (message_is n is) ∙ ap (λ (s : Server). come_by s.health m (message_of x)) there_is ∙ e

    pub deliver_down : unit.health ≡ IsDown → act chart m stands (line.Deliver n) ≡ acted reply.Down m
    deliver_down down_is = delivers (acted reply.Down m) (ap (λ (h : Health). come_by h m (message_of x)) down_is)

    comes : (h : Health) → h ≢ IsDown → come_by h m (message_of x) ≡ received m (message_of x) (server_of unit)
    comes Works up = ap (received m (message_of x)) there_is
    comes Failed up = ap (received m (message_of x)) there_is
    comes IsDown up = absurd (up refl)

    -- what becomes of it, if its step isn't taken
    abbrev came_or : Bool → Acted
    came_or came = cond came (acted reply.Same m) (acted reply.Fresh (with_server m x.receiver.0 (with_came x.sender.0 x.step (server_of unit))))

    pub deliver_old : unit.health ≢ IsDown → x.step ≤ taken unit.past → act chart m stands (line.Deliver n) ≡ acted reply.Old m
    deliver_old up old =
        let is_old : nat_le x.step (taken unit.past) ≡ true = search (rules, old) in
        delivers (acted reply.Old m) (comes unit.health up ∙ cond-true (nat_le x.step (taken unit.past)) (acted reply.Old m) (came_or (is_some (unit.held x.sender.0 x.step))) is_old)

    later : unit.health ≢ IsDown → taken unit.past < x.step → (r : Acted) → came_or (is_some (unit.held x.sender.0 x.step)) ≡ r → act chart m stands (line.Deliver n) ≡ r
    later up after r e =
        let not_old : nat_le x.step (taken unit.past) ≡ false = search (rules, after) in
        delivers r (comes unit.health up ∙ cond-false (nat_le x.step (taken unit.past)) (acted reply.Old m) (came_or (is_some (unit.held x.sender.0 x.step))) not_old ∙ e)

    pub deliver_same : unit.health ≢ IsDown → taken unit.past < x.step → (update : Update) → unit.held x.sender.0 x.step ≡ Some update → act chart m stands (line.Deliver n) ≡ acted reply.Same m
    deliver_same up after update there = later up after (acted reply.Same m) (ap (λ (o : Option Update). came_or (is_some o)) there)

    pub deliver_fresh : unit.health ≢ IsDown → taken unit.past < x.step → unit.held x.sender.0 x.step ≡ None → (held : ℕ → ℕ → Option Update) →
        ((w k : ℕ) → is_some (held w k) ≡ (((w == x.sender.0) && (k == x.step)) || is_some (unit.held w k))) →
        act chart m stands (line.Deliver n) ≡ acted reply.Fresh (with_unit (record unit { held = held }))
    deliver_fresh up after none held now =
        later up after (acted reply.Fresh (with_unit (record unit { held = held })))
        (ap (λ (o : Option Update). came_or (is_some o)) none
        ∙ ap (acted reply.Fresh) (ap₂ (λ (v : ℕ) (s : Server). with_server m v s) to (sym (came_is unit x.sender.0 x.step held now)) ∙ with_is units messages u.0 (record unit { held = held })))

-- a message that there isn't
pub deliver_none : (chart : Chart) (units : List UnitState) (messages : List Sent) (stands : Bool) (n : ℕ) → sent_at messages n ≡ None →
    act chart (machine_of units messages) stands (line.Deliver n) ≡ acted reply.NoMessage (machine_of units messages)
unfolding act deliver
deliver_none chart units messages stands zero none = refl
deliver_none chart units messages stands (suc k) none = ap (deliver_by (machine_of units messages)) (slice_get-map message_of messages k ∙ ap (option_map message_of) none)
