-- A play in which no disk is armed comes to no doubt, so no outcome changes what it answers.
use Rattle.std.proofs.Common.{◌≡◌, ℕ, zero, suc, ◌+◌, ◌-◌, ◌||◌, nat_le, length, Bool, true, false, if◌then◌else◌, List, [], ◌∷◌, Option, Some, None, Result, Ok, Err, unwrap_or, slice_get, refl, sym, ap, ◌∙◌, subst, true≢false}
use Rattle.std.specs.List.{list_any, range_with_len}
use lib.Chars.{codes}
use Rattle.wf_model.specs.declared.chart.Chart.{Chart}
use Rattle.wf_model.specs.declared.outer.OuterFault.{OuterFault}
use Rattle.wf_model.specs.declared.status.Status.TheVariants as status
use Rattle.wf_refusals.specs.Lines.{refusal}
use Rattle.wf_machine.specs.declared.admission.Admission.{Admission}
use Rattle.wf_machine.specs.declared.line.Line.{Line}
use Rattle.wf_machine.specs.declared.line.Line.TheVariants as line
use Rattle.wf_machine.specs.declared.reply.Reply.{Reply}
use Rattle.wf_machine.specs.declared.reply.Reply.TheVariants as reply
use Rattle.wf_machine.specs.Strokes.{Fuse, Met, Done, SetOff, strokes}
use Rattle.wf_machine.specs.Bars.{Bar}
use Rattle.wf_machine.specs.Server.{Health, Works, Failed, IsDown, Record, Admits, Turns, Server, nothing, new_server, taken, stand, written_by, written, next_turn, settled, recovered_by, recovered}
use Rattle.wf_machine.specs.Machine.{Message, CountingMachine, first_machine, all_units, server, with_server, message_at}
use Rattle.wf_machine.specs.Lines.{Acted, told, bar_at, admit_by, asked, lets, admit, peers, missing, turn_by, turned, after_turn, send_by, send, with_came, received, come_by, deliver_by, deliver, crash_by, after_delivery, after_exchange, after_posts, after_exchanges, after_turns, round, act}
use Rattle.wf_machine.specs.Runs.{Outcomes, first_outcome, other_outcomes, replies_to, after_lines, is_lost, at_end_by, at_end, all_at_end, closed, ending_of, ending}
use Rattle.wf_machine.proofs.Accounts.{at_server, new_at}
use Rattle.wf_machine.proofs.Outcomes.{hears_no_outcomes}
use Rattle.wf_world.specs.Sent.{is_over, passes}
use Rattle.wf_top.specs.declared.command.Telling.{Telling}
use Rattle.wf_top.specs.declared.command.Telling.TheVariants.{Whole, Summary}
use Rattle.wf_top.specs.Answers.{answer, run_answer, told_of_play, run_of_play}
use Rattle.wf_top.specs.Summaries.{summary_line, summary_text}
use Rattle.wf_top.specs.Laws.{is_arm, UnarmedPlaysHaveOneAnswer}
use Rattle.wf_top.specs.Plays.{told_text, play_text}

-- no arm is set, and no record is in doubt
record Calm (s : Server) : Type 0 where
  fuse : s.fuse ≡ None
  doubt : s.doubt ≡ None

abbrev AreCalm : CountingMachine → Type 0
AreCalm m = (u : ℕ) → Calm (server m u)

new_calm : Calm new_server
new_calm = record { fuse = refl; doubt = refl }

first_calm : (chart : Chart) → AreCalm (first_machine chart)
first_calm chart u = subst Calm (sym (new_at _ u)) new_calm

calm_at : (m : CountingMachine) (u : ℕ) (s : Server) → AreCalm m → Calm s → AreCalm (with_server m u s)
calm_at m u s calm is = at_server m u s (λ v t. Calm t) is calm

-- ONE SERVER

stand_calm : (r : Record) (s : Server) → Calm s → Calm (stand r s)
unfolding stand
stand_calm (Admits a) s calm = record { fuse = calm.fuse; doubt = calm.doubt }
stand_calm (Turns n) s calm = record { fuse = calm.fuse; doubt = calm.doubt }

no_stroke : (n : ℕ) (fuse : Option Fuse) → fuse ≡ None → strokes n fuse ≡ Done None
unfolding strokes
no_stroke n fuse is = ap (strokes n) is

written_calm : (r : Record) (s : Server) → Calm s → Calm (written r s).1
unfolding written
written_calm r s calm =
    subst (λ (met : Met). Calm (written_by r s met).1) (sym (no_stroke 4 s.fuse calm.fuse)) (stand_calm r (record s { fuse = None }) (record { fuse = refl; doubt = calm.doubt }))

settled_calm : (stands : Bool) (d : Option Record) (s : Server) → d ≡ None → s.doubt ≡ None → (settled stands d s).doubt ≡ None
settled_calm stands None s none is = is
settled_calm stands (Some r) s none is = absurd (some_none r none)
  where
    some_none : (r : Record) → Some r ≡ None → ⊥
    some_none r q = cc

recovered_calm : (stands : Bool) (s : Server) → Calm s → Calm (recovered stands s).1
unfolding recovered
recovered_calm stands s calm =
    subst (λ (met : Met). Calm (recovered_by stands s met).1) (sym (no_stroke 1 s.fuse calm.fuse)) (record { fuse = refl; doubt = settled_calm stands s.doubt s calm.doubt calm.doubt })

admit_calm : (bar : Option Bar) (known : Option (ℕ × Admission)) (may : Result (Unit {0}) OuterFault) (s : Server) (a : Admission) → Calm s → Calm (admit_by bar known may s a).1
admit_calm (Some bar) known may s a calm = calm
admit_calm None (Some x) may s a calm = calm
admit_calm None None (Err fault) s a calm = calm
admit_calm None None (Ok admitted) s a calm = written_calm (Admits a) s calm

turn_calm : (bar : Option Bar) (units : List ℕ) (s : Server) → Calm s → Calm (turn_by bar units s).1
turn_calm (Some bar) units s calm = calm
turn_calm None (v ∷ units) s calm = calm
turn_calm None [] s calm = written_calm (next_turn s) s calm

crash_calm : (health : Health) (s : Server) → Calm s → Calm (crash_by health s).1
crash_calm Works s calm = record { fuse = calm.fuse; doubt = calm.doubt }
crash_calm Failed s calm = record { fuse = calm.fuse; doubt = calm.doubt }
crash_calm IsDown s calm = calm

-- ALL SERVERS

either_calm : (test : Bool) (x y : Acted) → AreCalm x.after → AreCalm y.after → AreCalm (if test then x else y).after
either_calm true x y first second = first
either_calm false x y first second = second

after_turn_calm : (m : CountingMachine) (u : ℕ) → AreCalm m → AreCalm (after_turn m u)
unfolding turned
after_turn_calm m u calm = calm_at m u (turned m u).1 calm (turn_calm (bar_at (server m u).health) (missing m u) (server m u) (calm u))

send_by_calm : (health : Health) (m : CountingMachine) (u v : ℕ) → AreCalm m → AreCalm (send_by health m u v).after
send_by_calm Works m u v calm = calm
send_by_calm Failed m u v calm = calm
send_by_calm IsDown m u v calm = calm

send_calm : (m : CountingMachine) (u v : ℕ) → AreCalm m → AreCalm (send m u v).after
unfolding send
send_calm m u v calm = send_by_calm (server m u).health m u v calm

received_calm : (m : CountingMachine) (x : Message) (s : Server) → AreCalm m → Calm s → AreCalm (received m x s).after
received_calm m x s calm is =
    either_calm (nat_le x.step (taken s)) (told m reply.Old) (if s.came x.sender x.step then told m reply.Same else record { reply = reply.Fresh; after = with_server m x.receiver (with_came x.sender x.step s) }) calm
    (either_calm (s.came x.sender x.step) (told m reply.Same) (record { reply = reply.Fresh; after = with_server m x.receiver (with_came x.sender x.step s) }) calm
    (calm_at m x.receiver (with_came x.sender x.step s) calm (record { fuse = is.fuse; doubt = is.doubt })))

come_calm : (health : Health) (m : CountingMachine) (x : Message) → AreCalm m → AreCalm (come_by health m x).after
come_calm Works m x calm = received_calm m x (server m x.receiver) calm (calm x.receiver)
come_calm Failed m x calm = received_calm m x (server m x.receiver) calm (calm x.receiver)
come_calm IsDown m x calm = calm

deliver_by_calm : (m : CountingMachine) (found : Option Message) → AreCalm m → AreCalm (deliver_by m found).after
deliver_by_calm m None calm = calm
deliver_by_calm m (Some x) calm = come_calm (server m x.receiver).health m x calm

deliver_calm : (m : CountingMachine) (n : ℕ) → AreCalm m → AreCalm (deliver m n).after
unfolding deliver
deliver_calm m n calm = deliver_by_calm m (message_at m n) calm

delivery_calm : (m : CountingMachine) (ns : List ℕ) → AreCalm m → AreCalm (after_delivery m ns)
delivery_calm m [] calm = calm
delivery_calm m (n ∷ ns) calm = delivery_calm (deliver m n).after ns (deliver_calm m n calm)

exchange_calm : (m : CountingMachine) (u v : ℕ) → AreCalm m → AreCalm (after_exchange m u v)
exchange_calm m u v calm =
    delivery_calm (send m u v).after (range_with_len (length m.messages + 1) (length (send m u v).after.messages - length m.messages)) (send_calm m u v calm)

posts_calm : (m : CountingMachine) (u : ℕ) (vs : List ℕ) → AreCalm m → AreCalm (after_posts m u vs)
posts_calm m u [] calm = calm
posts_calm m u (v ∷ vs) calm = posts_calm (after_exchange m u v) u vs (exchange_calm m u v calm)

exchanges_calm : (m : CountingMachine) (us : List ℕ) → AreCalm m → AreCalm (after_exchanges m us)
exchanges_calm m [] calm = calm
exchanges_calm m (u ∷ us) calm = exchanges_calm (after_posts m u (peers m u)) us (posts_calm m u (peers m u) calm)

turns_calm : (m : CountingMachine) (us : List ℕ) → AreCalm m → AreCalm (after_turns m us)
turns_calm m [] calm = calm
turns_calm m (u ∷ us) calm = turns_calm (after_turn m u) us (after_turn_calm m u calm)

act_calm : (chart : Chart) (m : CountingMachine) (stands : Bool) (x : Line) → is_arm x ≡ false → AreCalm m → AreCalm (act chart m stands x).after
unfolding act admit round
act_calm chart m stands (line.Admit u request outer) unarmed calm =
    calm_at m u.0 _ calm
    (admit_calm (bar_at (server m u.0).health) (asked request (server m u.0).admissions) (lets chart m u.0 outer) (server m u.0) (record { request = request; outer = outer }) (calm u.0))
act_calm chart m stands (line.Turn u) unarmed calm = after_turn_calm m u.0 calm
act_calm chart m stands (line.Send u v) unarmed calm = send_calm m u.0 v.0 calm
act_calm chart m stands (line.Deliver n) unarmed calm = deliver_calm m n calm
act_calm chart m stands (line.Crash u outcome) unarmed calm = calm_at m u.0 _ calm (crash_calm (server m u.0).health (server m u.0) (calm u.0))
act_calm chart m stands (line.Arm u n what) unarmed calm = absurd (true≢false unarmed)
act_calm chart m stands (line.Recover u) unarmed calm = calm_at m u.0 _ calm (recovered_calm stands (server m u.0) (calm u.0))
act_calm chart m stands (line.Show u) unarmed calm = calm
act_calm chart m stands (line.Items u) unarmed calm = calm
act_calm chart m stands line.Round unarmed calm =
    turns_calm (after_exchanges m (all_units m)) (all_units (after_exchanges m (all_units m))) (exchanges_calm m (all_units m) calm)

-- LINES AND THE END

same_act : (chart : Chart) (m : CountingMachine) (x : Line) → AreCalm m → (a b : Bool) → act chart m a x ≡ act chart m b x
same_act chart m x calm true true = refl
same_act chart m x calm true false = hears_no_outcomes chart m x (λ u. (calm u).doubt)
same_act chart m x calm false true = sym (hears_no_outcomes chart m x (λ u. (calm u).doubt))
same_act chart m x calm false false = refl

-- these outcomes and those lead from a machine over the lines to the same
record Same (chart : Chart) (m : CountingMachine) (xs : List (ℕ × Line)) (bs cs : List Bool) : Type 0 where
  replies : replies_to chart m bs xs ≡ replies_to chart m cs xs
  after : after_lines chart m bs xs ≡ after_lines chart m cs xs
  over : passes chart m bs xs ≡ passes chart m cs xs
  calm : AreCalm (after_lines chart m cs xs)

or_false : (a b : Bool) → (a || b) ≡ false → (a ≡ false) × (b ≡ false)
or_false true b none = absurd (true≢false none)
or_false false b none = (refl, none)

same_lines : (chart : Chart) (xs : List (ℕ × Line)) (m : CountingMachine) (bs cs : List Bool) → list_any (λ x. is_arm x.1) xs ≡ false → AreCalm m → Same chart m xs bs cs
same_lines chart [] m bs cs unarmed calm = record { replies = refl; after = refl; over = refl; calm = calm }
same_lines chart (x ∷ xs) m bs cs unarmed calm =
    let none = or_false (is_arm x.1) (list_any (λ (y : ℕ × Line). is_arm y.1) xs) unarmed in
    let did : Acted = act chart m (first_outcome cs) x.1 in
    let same : act chart m (first_outcome bs) x.1 ≡ did = same_act chart m x.1 calm (first_outcome bs) (first_outcome cs) in
    let rest = same_lines chart xs did.after (other_outcomes bs) (other_outcomes cs) none.1 (act_calm chart m (first_outcome cs) x.1 none.0 calm) in
    record {
      replies = ap (λ (d : Acted). (x.0, d.reply) ∷ replies_to chart d.after (other_outcomes bs) xs) same ∙ ap (λ (l : List (ℕ × Reply)). (x.0, did.reply) ∷ l) rest.replies;
      after = ap (λ (d : Acted). after_lines chart d.after (other_outcomes bs) xs) same ∙ rest.after;
      over = ap (λ (d : Acted). is_over chart d.after || passes chart d.after (other_outcomes bs) xs) same ∙ ap (λ (b : Bool). is_over chart did.after || b) rest.over;
      calm = rest.calm;
    }

settled_same : (s : Server) (d : Option Record) (a b : Bool) → d ≡ None → settled a d s ≡ settled b d s
settled_same s None a b none = refl
settled_same s (Some r) a b none = absurd (some_none r none)
  where
    some_none : (r : Record) → Some r ≡ None → ⊥
    some_none r q = cc

recovered_same_by : (s : Server) (met : Met) (a b : Bool) → s.doubt ≡ None → recovered_by a s met ≡ recovered_by b s met
recovered_same_by s (Done fuse) a b none = ap (λ (t : Server). (None, record t { health = Works; came = nothing; fuse = fuse })) (settled_same s s.doubt a b none)
recovered_same_by s (SetOff n what) a b none = refl

end_same : (lost a b : Bool) (s : Server) → Calm s → at_end_by lost a s ≡ at_end_by lost b s
unfolding recovered
end_same false a b s calm = refl
end_same true a b s calm = ap (λ (d : Option Bar × Server). d.1) (recovered_same_by (record s { fuse = None }) (strokes 1 None) a b calm.doubt)

ends_same : (ss : List Server) → ((u : ℕ) → Calm (unwrap_or (slice_get ss u) new_server)) → (bs cs : List Bool) → all_at_end bs ss ≡ all_at_end cs ss
ends_same [] calm bs cs = refl
ends_same (s ∷ ss) calm bs cs =
    ap (λ (t : Server). t ∷ all_at_end (other_outcomes bs) ss) (end_same (is_lost s.health) (first_outcome bs) (first_outcome cs) s (calm zero))
    ∙ ap (λ (l : List Server). at_end (first_outcome cs) s ∷ l) (ends_same ss (λ u. calm (suc u)) (other_outcomes bs) (other_outcomes cs))

ending_same : (chart : Chart) (m : CountingMachine) (bs cs : List Bool) → AreCalm m → ending chart m bs ≡ ending chart m cs
unfolding ending closed
ending_same chart m bs cs calm = ap (λ (l : List Server). ending_of chart m (record m { servers = l })) (ends_same m.servers calm bs cs)

closed_same : (m : CountingMachine) (bs cs : List Bool) → AreCalm m → closed m bs ≡ closed m cs
unfolding closed
closed_same m bs cs calm = ap (λ (l : List Server). record m { servers = l }) (ends_same m.servers calm bs cs)

told_same : (telling : Telling) (chart : Chart) (lines : List (ℕ × Line)) (o p : Outcomes) → list_any (λ x. is_arm x.1) lines ≡ false
    → told_of_play telling chart o lines ≡ told_of_play telling chart p lines
unfolding play_text summary_text
told_same Whole chart lines o p unarmed =
    let same = same_lines chart lines (first_machine chart) o.at_lines p.at_lines unarmed (first_calm chart) in
    let last = ap (λ (m : CountingMachine). ending chart m o.at_end) same.after ∙ ending_same chart (after_lines chart (first_machine chart) p.at_lines lines) o.at_end p.at_end same.calm in
    λ i. run_answer (told_text chart (same.replies i) (last i))
told_same (Summary n) chart lines o p unarmed =
    let same = same_lines chart lines (first_machine chart) o.at_lines p.at_lines unarmed (first_calm chart) in
    let last = ap (λ (m : CountingMachine). closed m o.at_end) same.after ∙ closed_same (after_lines chart (first_machine chart) p.at_lines lines) o.at_end p.at_end same.calm in
    ap (λ (m : CountingMachine). answer status.Ok (summary_line n chart m)) last

pub unarmed_plays : UnarmedPlaysHaveOneAnswer
unfolding run_of_play
unarmed_plays telling chart lines o p unarmed =
    let same = same_lines chart lines (first_machine chart) o.at_lines p.at_lines unarmed (first_calm chart) in
    let told = told_same telling chart lines o p unarmed in
    λ i. if same.over i then answer status.Limit (refusal (codes "limit sent")) else told i
