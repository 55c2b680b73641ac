-- What a line of a play does: the reply, and the machine after it.
use Rattle.std.specs.Prelude.{ℕ, zero, suc, ◌+◌, ◌-◌, ◌^◌, ◌++◌, ◌==◌, ◌&&◌, ◌||◌, not, nat_le, if◌then◌else◌, Bool, false, List, [], ◌∷◌, length, map, filter, find, sum, Option, Some, None, Result, Ok, Err}
use Rattle.std.specs.List.{range_with_len, enumerate_from}
use Rattle.std.specs.Cmp.Lexicographic.{pointwise}
use Rattle.wf_model.specs.declared.update.UnitSet.{UnitSet}
use Rattle.wf_model.specs.declared.outer.Output.{Output}
use Rattle.wf_model.specs.declared.outer.Outer.{Outer}
use Rattle.wf_model.specs.declared.outer.Outer.TheVariants.{Happen, Complete}
use Rattle.wf_model.specs.declared.outer.OuterFault.{OuterFault}
use Rattle.wf_model.specs.declared.chart.Chart.{Chart}
use Rattle.wf_model.specs.Values.{is_equal}
use Rattle.wf_semantics.specs.Admission.{may_be_admitted}
use Rattle.wf_disk.specs.declared.arm.Arm.{Arm}
use Rattle.wf_machine.specs.declared.admission.Admission.{Admission}
use Rattle.wf_machine.specs.declared.line.Line.{Line}
use Rattle.wf_machine.specs.declared.line.Line.TheVariants as line
use Rattle.wf_machine.specs.declared.reply.TurnReply.{TurnReply}
use Rattle.wf_machine.specs.declared.reply.TurnReply.TheVariants as turn
use Rattle.wf_machine.specs.declared.reply.Reply.{Reply}
use Rattle.wf_machine.specs.declared.reply.Reply.TheVariants as reply
use Rattle.wf_machine.specs.Bars.{Bar, Reopen, Down, barred, turn_barred}
use Rattle.wf_machine.specs.Server.{Health, Works, Failed, IsDown, Server, Admits, taken, fallen, written, next_turn, recovered}
use Rattle.wf_machine.specs.Machine.{CountingMachine, Message, all_units, server, with_server, message_at, entry_of}
use Rattle.wf_machine.specs.Sights.{central_of, sight_of, items_of}

pub record Acted : Type 0 where
  pub reply : Reply
  pub after : CountingMachine

-- the line changes nothing
abbrev pub told : CountingMachine → Reply → Acted
told m r = record { reply = r; after = m }

-- the line changes the server of unit u
abbrev pub done_at : CountingMachine → ℕ → Reply × Server → Acted
done_at m u did = record { reply = did.0; after = with_server m u did.1 }

-- what keeps a server from writing
abbrev pub bar_at : Health → Option Bar
bar_at Works = None
bar_at Failed = Some Reopen
bar_at IsDown = Some Down

-- the reply, unless the write was hindered
abbrev pub unless : Reply → Option Bar → Reply
unless r None = r
unless r (Some bar) = barred bar

abbrev pub turn_unless : TurnReply → Option Bar → TurnReply
turn_unless r None = r
turn_unless r (Some bar) = turn_barred bar

-- ---- admit

abbrev pub same_output : Output → Output → Bool
same_output o p = (o.var.0 == p.var.0) && is_equal o.val p.val

abbrev pub same_outer : Outer → Outer → Bool
same_outer (Happen e) (Happen f) = e.0 == f.0
same_outer (Happen e) (Complete n a outputs) = false
same_outer (Complete n a outputs) (Happen e) = false
same_outer (Complete n a outputs) (Complete i b given) = (n == i) && ((a.0 == b.0) && pointwise same_output outputs given)

-- the admission that has this request, and its number
abbrev pub asked : ℕ → List Admission → Option (ℕ × Admission)
asked request admissions = find (λ x. x.1.request == request) (enumerate_from 1 admissions)

-- the reply where an admission has the request
abbrev pub answered : ℕ × Admission → Outer → Reply
answered x outer = if same_outer x.1.outer outer then reply.Again x.0 else reply.Reused x.0

-- the first refusal of the admission rule after the unit's taken steps, where all its admissions are pending
abbrev pub lets : Chart → CountingMachine → ℕ → Outer → Result (Unit {0}) OuterFault
lets chart m u outer = may_be_admitted chart (central_of chart m u).items (map (λ a. entry_of u a.outer) (server m u).admissions) u outer

-- the first of these that applies: the server can't write; an admission has the request; the outer is refused. Else it is
-- written.
abbrev pub admit_by : Option Bar → Option (ℕ × Admission) → Result (Unit {0}) OuterFault → Server → Admission → Reply × Server
admit_by (Some bar) known may s a = (barred bar, s)
admit_by None (Some x) may s a = (answered x a.outer, s)
admit_by None None (Err fault) s a = (reply.Refused fault, s)
admit_by None None (Ok admitted) s a =
    (unless (reply.New (length s.admissions + 1)) (written (Admits a) s).0, (written (Admits a) s).1)

unfoldable pub admit : Chart → CountingMachine → ℕ → Admission → Acted
admit chart m u a =
    done_at m u (admit_by (bar_at (server m u).health) (asked a.request (server m u).admissions) (lets chart m u a.outer) (server m u) a)

-- ---- turn

-- the other units, in order
abbrev pub peers : CountingMachine → ℕ → List ℕ
peers m u = filter (λ v. not (v == u)) (all_units m)

-- those whose update of the next step hasn't come
abbrev pub missing : CountingMachine → ℕ → List ℕ
missing m u = filter (λ v. not ((server m u).came v (taken (server m u) + 1))) (peers m u)

-- the set of these units: bit v is unit v
abbrev pub unit_set : List ℕ → UnitSet
unit_set units = record { 0 = sum (map (λ v. 2 ^ v) units) }

-- the first of these that applies: the server can't write; updates are missing. Else the turn is written.
abbrev pub turn_by : Option Bar → List ℕ → Server → TurnReply × Server
turn_by (Some bar) units s = (turn_barred bar, s)
turn_by None (v ∷ units) s = (turn.Waiting (unit_set (v ∷ units)), s)
turn_by None [] s = (turn_unless (turn.Took (taken s + 1)) (written (next_turn s) s).0, (written (next_turn s) s).1)

unfoldable pub turned : CountingMachine → ℕ → TurnReply × Server
turned m u = turn_by (bar_at (server m u).health) (missing m u) (server m u)

abbrev pub after_turn : CountingMachine → ℕ → CountingMachine
after_turn m u = with_server m u (turned m u).1

-- ---- send and deliver

-- a server keeps its updates of the steps taken, where there is one, and taken + 1
abbrev pub kept_steps : ℕ → List ℕ
kept_steps zero = 1 ∷ []
kept_steps (suc k) = suc k ∷ suc (suc k) ∷ []

abbrev pub letters : ℕ → ℕ → ℕ → List Message
letters u v k = map (λ j. record { sender = u; receiver = v; step = j }) (kept_steps k)

-- the number of the second message
abbrev pub second_of : ℕ → ℕ → Option ℕ
second_of n zero = None
second_of n (suc k) = Some (n + 2)

-- a server that isn't down sends what it keeps
abbrev pub posted : CountingMachine → ℕ → ℕ → Acted
posted m u v =
    record {
      reply = reply.Sent (length m.messages + 1) (second_of (length m.messages) (taken (server m u)));
      after = record m { messages = m.messages ++ letters u v (taken (server m u)) };
    }

abbrev pub send_by : Health → CountingMachine → ℕ → ℕ → Acted
send_by Works m u v = posted m u v
send_by Failed m u v = posted m u v
send_by IsDown m u v = told m (barred Down)

unfoldable pub send : CountingMachine → ℕ → ℕ → Acted
send m u v = send_by (server m u).health m u v

-- the update of this unit and step came
abbrev pub with_came : ℕ → ℕ → Server → Server
with_came v j s = record s { came = λ w k. ((w == v) && (k == j)) || s.came w k }

-- the server isn't down: the step is taken; or the update came before; or it comes now
abbrev pub received : CountingMachine → Message → Server → Acted
received m x s =
    if nat_le x.step (taken s) then told m reply.Old
    else if s.came x.sender x.step then told m reply.Same
    else record { reply = reply.Fresh; after = with_server m x.receiver (with_came x.sender x.step s) }

abbrev pub come_by : Health → CountingMachine → Message → Acted
come_by Works m x = received m x (server m x.receiver)
come_by Failed m x = received m x (server m x.receiver)
come_by IsDown m x = told m (barred Down)

abbrev pub deliver_by : CountingMachine → Option Message → Acted
deliver_by m None = told m reply.NoMessage
deliver_by m (Some x) = come_by (server m x.receiver).health m x

unfoldable pub deliver : CountingMachine → ℕ → Acted
deliver m n = deliver_by m (message_at m n)

-- ---- crash, arm, recover

abbrev pub crash_by : Health → Server → Reply × Server
crash_by Works s = (reply.Crashed, fallen s)
crash_by Failed s = (reply.Crashed, fallen s)
crash_by IsDown s = (barred Down, s)

-- the arm is replaced
abbrev pub armed : ℕ → Arm → Server → Reply × Server
armed n what s = (reply.Armed, record s { fuse = Some (record { left = n; what = what }) })

abbrev pub counts_of : Server → Reply
counts_of s = reply.Recovered (taken s) (length s.admissions)

abbrev pub recover_by : Option Bar × Server → Reply × Server
recover_by did = (unless (counts_of did.1) did.0, did.1)

-- ---- show and items

abbrev pub show_by : Health → Reply → Reply
show_by Works r = r
show_by Failed r = r
show_by IsDown r = barred Down

-- ---- round

-- messages are delivered in order
abbrev pub after_delivery : CountingMachine → List ℕ → CountingMachine
after_delivery m [] = m
after_delivery m (n ∷ ns) = after_delivery (deliver m n).after ns

-- u sends to v, and what it sent is delivered; where v is down nothing comes
abbrev pub after_exchange : CountingMachine → ℕ → ℕ → CountingMachine
after_exchange m u v =
    after_delivery (send m u v).after (range_with_len (length m.messages + 1) (length (send m u v).after.messages - length m.messages))

-- u sends to each of these
abbrev pub after_posts : CountingMachine → ℕ → List ℕ → CountingMachine
after_posts m u [] = m
after_posts m u (v ∷ vs) = after_posts (after_exchange m u v) u vs

-- each of these sends to each other one
abbrev pub after_exchanges : CountingMachine → List ℕ → CountingMachine
after_exchanges m [] = m
after_exchanges m (u ∷ us) = after_exchanges (after_posts m u (peers m u)) us

abbrev pub turn_replies : CountingMachine → List ℕ → List TurnReply
turn_replies m [] = []
turn_replies m (u ∷ us) = (turned m u).0 ∷ turn_replies (after_turn m u) us

abbrev pub after_turns : CountingMachine → List ℕ → CountingMachine
after_turns m [] = m
after_turns m (u ∷ us) = after_turns (after_turn m u) us

abbrev pub round_from : CountingMachine → Acted
round_from m = record { reply = reply.Round (turn_replies m (all_units m)); after = after_turns m (all_units m) }

-- all send to all, then all take a turn
unfoldable pub round : CountingMachine → Acted
round m = round_from (after_exchanges m (all_units m))

-- ---- all lines

-- what a line does, where a doubt that it ends turns out so: the record stands or it doesn't
unfoldable pub act : Chart → CountingMachine → Bool → Line → Acted
act chart m stands (line.Admit u request outer) = admit chart m u.0 (record { request = request; outer = outer })
act chart m stands (line.Turn u) = record { reply = reply.Turned (turned m u.0).0; after = after_turn m u.0 }
act chart m stands (line.Send u v) = send m u.0 v.0
act chart m stands (line.Deliver n) = deliver m n
act chart m stands (line.Crash u outcome) = done_at m u.0 (crash_by (server m u.0).health (server m u.0))
act chart m stands (line.Arm u n what) = done_at m u.0 (armed n what (server m u.0))
act chart m stands (line.Recover u) = done_at m u.0 (recover_by (recovered stands (server m u.0)))
act chart m stands (line.Show u) = told m (show_by (server m u.0).health (reply.Shown (sight_of chart m u.0)))
act chart m stands (line.Items u) = told m (show_by (server m u.0).health (reply.Items (items_of chart m u.0)))
act chart m stands line.Round = round m
