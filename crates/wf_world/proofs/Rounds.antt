-- A round, message by message and unit by unit: what is left to do of it leads to what all of it does.
use Rattle.std.proofs.Common.{◌≡◌, ◌≢◌, ℕ, suc, ◌+◌, ◌-◌, ◌<◌, ◌≤◌, ◌==◌, nat_lt, cond, not, Bool, true, false, List, [], ◌∷◌, ◌++◌, filter, length, refl, sym, ap, ap₂, ◌∙◌, subst, arith, rules, eqb-true, eq-eqb, append_assoc}
use Rattle.std.specs.List.{range_with_len}
use Rattle.std.proofs.lemmas.Bool.{cond-true, cond-false}
use Rattle.std.proofs.lemmas.List.{length-map, append-nil}
use Rattle.wf_model.specs.declared.ids.UnitId.{UnitId}
use Rattle.wf_model.specs.declared.chart.Chart.{Chart}
use Rattle.wf_machine.specs.declared.line.Line.TheVariants as line
use Rattle.wf_machine.specs.declared.reply.Reply.{Reply}
use Rattle.wf_machine.specs.declared.reply.Reply.TheVariants as reply
use Rattle.wf_machine.specs.declared.reply.TurnReply.{TurnReply}
use Rattle.wf_machine.specs.Machine.{CountingMachine, all_units}
use Rattle.wf_machine.specs.Lines.{Acted, peers, send, deliver, turned, after_turn, after_delivery, after_exchange, after_posts, after_exchanges, turn_replies, after_turns, round_from, round, act}
use Rattle.wf_slot.specs.Units.{server_of}
use Rattle.wf_slot.specs.Slots.{SlotState, unit_of}
use Rattle.wf_world.specs.Mail.{message_of}
use Rattle.wf_world.specs.Fleets.{FleetState, units_of, machine_at, IsFleet, IsWorn, AreWorn, one_more, WearsOne, WearsNone, WearsAll, HasRoom, HaveRoom, Leads, Comes, Follows, IsPast}
use Rattle.wf_world.proofs.Following.{follows_on, posts_follow, exchanges_follow, sent_exchanged, exchanged_round}

-- WHAT A LINE DID, by the machine's own words

pub delivered_is : (f g : FleetState) (n : ℕ) (r : Reply) → Leads f (line.Deliver n) r g → (deliver (machine_at f) n).after ≡ machine_at g
unfolding act
delivered_is f g n r led = ap (λ (d : Acted). d.after) led.machine.1

pub sent_is : (f g : FleetState) (u v : UnitId) (r : Reply) → Leads f (line.Send u v) r g → (send (machine_at f) u.0 v.0).after ≡ machine_at g
unfolding act
sent_is f g u v r led = ap (λ (d : Acted). d.after) led.machine.1

pub turned_is : (f g : FleetState) (u : UnitId) (r : TurnReply) → Leads f (line.Turn u) (reply.Turned r) g → after_turn (machine_at f) u.0 ≡ machine_at g
unfolding act
turned_is f g u r led = ap (λ (d : Acted). d.after) led.machine.1

-- the reply to a turn
abbrev turn_in : Reply → TurnReply → TurnReply
turn_in (reply.Turned r) other = r
turn_in r other = other

pub turn_reply_is : (f g : FleetState) (u : UnitId) (r : TurnReply) → Leads f (line.Turn u) (reply.Turned r) g → (turned (machine_at f) u.0).0 ≡ r
unfolding act
turn_reply_is f g u r led = ap (λ (d : Acted). turn_in d.reply r) led.machine.1

-- DELIVERIES

-- the messages from a place on come to what all come to
pub record IsDelivering (f : FleetState) (before end place : ℕ) (g : FleetState) : Type 0 where
  pub chart : g.chart ≡ f.chart
  pub rest : after_delivery (machine_at g) (range_with_len (place + 1) (end - place)) ≡ after_delivery (machine_at f) (range_with_len (before + 1) (end - before))
  pub fleet : IsFleet g
  pub worn : WearsNone f g

pub none_delivered : (f : FleetState) (before end : ℕ) → IsFleet f → IsDelivering f before end before f
none_delivered f before end is = record { chart = refl; rest = refl; fleet = is; worn = λ n worn. worn }

pub one_delivered : (f g k : FleetState) (before end place : ℕ) (r : Reply) → IsDelivering f before end place g → place < end → Leads g (line.Deliver (place + 1)) r k → WearsNone g k → IsDelivering f before end (place + 1) k
one_delivered f g k before end place r so_far lt led worn =
    let left : end - place ≡ suc (end - (place + 1)) = omega (arith, lt) in
    record {
      chart = led.chart ∙ so_far.chart;
      rest = ap (λ (m : CountingMachine). after_delivery m (range_with_len ((place + 1) + 1) (end - (place + 1)))) (sym (delivered_is g k (place + 1) r led))
          ∙ ap (λ (j : ℕ). after_delivery (machine_at g) (range_with_len (place + 1) j)) (sym left)
          ∙ so_far.rest;
      fleet = led.fleet;
      worn = λ n are. worn n (so_far.worn n are);
    }

pub all_delivered : (f g : FleetState) (before end place : ℕ) → IsDelivering f before end place g → end ≤ place → Comes f (after_delivery (machine_at f) (range_with_len (before + 1) (end - before))) g
all_delivered f g before end place so_far past =
    let none : end - place ≡ 0 = omega (arith, past) in
    record { chart = so_far.chart; machine = ap (λ (j : ℕ). after_delivery (machine_at g) (range_with_len (place + 1) j)) (sym none) ∙ so_far.rest; fleet = so_far.fleet }

-- AN EXCHANGE
pub exchanged : (f g k : FleetState) (u v : UnitId) (r : Reply) → Leads f (line.Send u v) r g → Comes g (after_delivery (machine_at g) (range_with_len (length f.messages + 1) (length g.messages - length f.messages))) k →
    Comes f (after_exchange (machine_at f) u.0 v.0) k
exchanged f g k u v r led comes =
    let before : length f.messages ≡ length (machine_at f).messages = sym (length-map f.messages message_of) in
    let end : length g.messages ≡ length (send (machine_at f) u.0 v.0).after.messages = sym (length-map g.messages message_of) ∙ ap (λ (m : CountingMachine). length m.messages) (sym (sent_is f g u v r led)) in
    record {
      chart = comes.chart ∙ led.chart;
      machine = comes.machine
          ∙ ap₂ (λ (a b : ℕ). after_delivery (machine_at g) (range_with_len (a + 1) (b - a))) before end
          ∙ ap (λ (m : CountingMachine). after_delivery m (range_with_len (length (machine_at f).messages + 1) (length (send (machine_at f) u.0 v.0).after.messages - length (machine_at f).messages))) (sym (sent_is f g u v r led));
      fleet = comes.fleet;
    }

-- what is past the limit is so with all that comes of it
pub past_on : (chart : Chart) (m a : CountingMachine) → Follows m a → IsPast chart m → IsPast chart a
past_on chart m a follows past after more = past after (follows_on m a after follows more)

pub exchange_past : (f : FleetState) (u v : ℕ) → IsPast f.chart (send (machine_at f) u v).after → IsPast f.chart (after_exchange (machine_at f) u v)
exchange_past f u v past = past_on f.chart (send (machine_at f) u v).after (after_exchange (machine_at f) u v) (sent_exchanged f.chart (machine_at f) u v) past

-- POSTS TO ALL

-- the units from v on but u
abbrev pub peers_from : ℕ → ℕ → ℕ → List ℕ
peers_from u v n = filter (λ w. not (w == u)) (range_with_len v (n - v))

pub record IsPosting (f : FleetState) (u n v : ℕ) (g : FleetState) : Type 0 where
  pub chart : g.chart ≡ f.chart
  pub rest : after_posts (machine_at g) u (peers_from u v n) ≡ after_posts (machine_at f) u (peers (machine_at f) u)
  pub fleet : IsFleet g
  pub worn : WearsNone f g

pub units_long : (f : FleetState) → length (machine_at f).servers ≡ length f.slots
units_long f = length-map (units_of f.slots) server_of ∙ length-map f.slots unit_of

pub none_posted : (f : FleetState) (u : ℕ) → IsFleet f → IsPosting f u (length f.slots) 0 f
none_posted f u is = record {
  chart = refl;
  rest = ap (λ (n : ℕ). after_posts (machine_at f) u (filter (λ w. not (w == u)) (range_with_len 0 n))) (let whole : length f.slots - 0 ≡ length f.slots = omega arith in whole ∙ sym (units_long f));
  fleet = is;
  worn = λ n worn. worn;
}

-- the first of those that are left
peers_next : (u v n : ℕ) → v < n → peers_from u v n ≡ cond (not (v == u)) (v ∷ peers_from u (v + 1) n) (peers_from u (v + 1) n)
peers_next u v n lt =
    let left : n - v ≡ suc (n - (v + 1)) = omega (arith, lt) in
    ap (λ (j : ℕ). filter (λ w. not (w == u)) (range_with_len v j)) left

pub one_skipped : (f g : FleetState) (u n v : ℕ) → IsPosting f u n v g → v < n → v ≡ u → IsPosting f u n (v + 1) g
one_skipped f g u n v so_far lt same = record {
  chart = so_far.chart;
  rest = ap (after_posts (machine_at g) u) (sym (peers_next u v n lt ∙ ap (λ (b : Bool). cond (not b) (v ∷ peers_from u (v + 1) n) (peers_from u (v + 1) n)) (eq-eqb v u same))) ∙ so_far.rest;
  fleet = so_far.fleet;
  worn = so_far.worn;
}

differs : (v u : ℕ) → v ≢ u → (v == u) ≡ false
differs v u other = go (v == u) refl
  where
    go : (b : Bool) → (v == u) ≡ b → (v == u) ≡ false
    go true e = absurd (other (eqb-true v u e))
    go false e = e

rest_posts : (f g : FleetState) (u n v : ℕ) → IsPosting f u n v g → v < n → v ≢ u → after_posts (after_exchange (machine_at g) u v) u (peers_from u (v + 1) n) ≡ after_posts (machine_at f) u (peers (machine_at f) u)
rest_posts f g u n v so_far lt other =
    ap (after_posts (machine_at g) u) (sym (peers_next u v n lt ∙ ap (λ (b : Bool). cond (not b) (v ∷ peers_from u (v + 1) n) (peers_from u (v + 1) n)) (differs v u other)))
    ∙ so_far.rest

pub one_posted : (f g k : FleetState) (u n v : ℕ) → IsPosting f u n v g → v < n → v ≢ u → Comes g (after_exchange (machine_at g) u v) k → WearsNone g k → IsPosting f u n (v + 1) k
one_posted f g k u n v so_far lt other comes worn = record {
  chart = comes.chart ∙ so_far.chart;
  rest = ap (λ (m : CountingMachine). after_posts m u (peers_from u (v + 1) n)) comes.machine ∙ rest_posts f g u n v so_far lt other;
  fleet = comes.fleet;
  worn = λ i are. worn i (so_far.worn i are);
}

pub posting_past : (f g : FleetState) (u n v : ℕ) → IsPosting f u n v g → v < n → v ≢ u → IsPast g.chart (after_exchange (machine_at g) u v) → IsPast f.chart (after_posts (machine_at f) u (peers (machine_at f) u))
posting_past f g u n v so_far lt other past =
    subst (IsPast f.chart) (rest_posts f g u n v so_far lt other)
    (past_on f.chart (after_exchange (machine_at g) u v) (after_posts (after_exchange (machine_at g) u v) u (peers_from u (v + 1) n)) (posts_follow f.chart (peers_from u (v + 1) n) (after_exchange (machine_at g) u v) u)
    (subst (λ (chart : Chart). IsPast chart (after_exchange (machine_at g) u v)) so_far.chart past))

pub all_posted : (f g : FleetState) (u n v : ℕ) → IsPosting f u n v g → n ≤ v → Comes f (after_posts (machine_at f) u (peers (machine_at f) u)) g
all_posted f g u n v so_far past =
    let none : n - v ≡ 0 = omega (arith, past) in
    record { chart = so_far.chart; machine = ap (λ (j : ℕ). after_posts (machine_at g) u (filter (λ w. not (w == u)) (range_with_len v j))) (sym none) ∙ so_far.rest; fleet = so_far.fleet }

-- ALL SEND TO ALL

pub record IsExchanging (f : FleetState) (n u : ℕ) (g : FleetState) : Type 0 where
  pub chart : g.chart ≡ f.chart
  pub rest : after_exchanges (machine_at g) (range_with_len u (n - u)) ≡ after_exchanges (machine_at f) (all_units (machine_at f))
  pub fleet : IsFleet g
  pub worn : WearsNone f g

pub none_exchanged : (f : FleetState) → IsFleet f → IsExchanging f (length f.slots) 0 f
none_exchanged f is = record {
  chart = refl;
  rest = ap (λ (n : ℕ). after_exchanges (machine_at f) (range_with_len 0 n)) (let whole : length f.slots - 0 ≡ length f.slots = omega arith in whole ∙ sym (units_long f));
  fleet = is;
  worn = λ n worn. worn;
}

rest_exchanges : (f g : FleetState) (n u : ℕ) → IsExchanging f n u g → u < n → after_exchanges (after_posts (machine_at g) u (peers (machine_at g) u)) (range_with_len (u + 1) (n - (u + 1))) ≡ after_exchanges (machine_at f) (all_units (machine_at f))
rest_exchanges f g n u so_far lt =
    let left : suc (n - (u + 1)) ≡ n - u = omega (arith, lt) in
    ap (λ (j : ℕ). after_exchanges (machine_at g) (range_with_len u j)) left ∙ so_far.rest

pub one_exchanged : (f g k : FleetState) (n u : ℕ) → IsExchanging f n u g → u < n → Comes g (after_posts (machine_at g) u (peers (machine_at g) u)) k → WearsNone g k → IsExchanging f n (u + 1) k
one_exchanged f g k n u so_far lt comes worn = record {
  chart = comes.chart ∙ so_far.chart;
  rest = ap (λ (m : CountingMachine). after_exchanges m (range_with_len (u + 1) (n - (u + 1)))) comes.machine ∙ rest_exchanges f g n u so_far lt;
  fleet = comes.fleet;
  worn = λ i are. worn i (so_far.worn i are);
}

pub exchanging_past : (f g : FleetState) (n u : ℕ) → IsExchanging f n u g → u < n → IsPast g.chart (after_posts (machine_at g) u (peers (machine_at g) u)) → IsPast f.chart (after_exchanges (machine_at f) (all_units (machine_at f)))
exchanging_past f g n u so_far lt past =
    let m : CountingMachine = after_posts (machine_at g) u (peers (machine_at g) u) in
    subst (IsPast f.chart) (rest_exchanges f g n u so_far lt)
    (past_on f.chart m (after_exchanges m (range_with_len (u + 1) (n - (u + 1)))) (exchanges_follow f.chart (range_with_len (u + 1) (n - (u + 1))) m)
    (subst (λ (chart : Chart). IsPast chart m) so_far.chart past))

pub all_exchanged : (f g : FleetState) (n u : ℕ) → IsExchanging f n u g → n ≤ u → Comes f (after_exchanges (machine_at f) (all_units (machine_at f))) g
all_exchanged f g n u so_far past =
    let none : n - u ≡ 0 = omega (arith, past) in
    record { chart = so_far.chart; machine = ap (λ (j : ℕ). after_exchanges (machine_at g) (range_with_len u j)) (sym none) ∙ so_far.rest; fleet = so_far.fleet }

-- ALL TAKE A STEP

-- how many lines each unit had, where those before u had one more
abbrev pub ahead_of : ℕ → ℕ → ℕ → ℕ
ahead_of u n v = cond (nat_lt v u) (n + 1) n

pub record IsTurning (f : FleetState) (n u : ℕ) (g : FleetState) (replies : List TurnReply) : Type 0 where
  pub chart : g.chart ≡ f.chart
  pub rest : after_turns (machine_at g) (range_with_len u (n - u)) ≡ after_turns (machine_at f) (all_units (machine_at f))
  pub replies_are : replies ++ turn_replies (machine_at g) (range_with_len u (n - u)) ≡ turn_replies (machine_at f) (all_units (machine_at f))
  pub fleet : IsFleet g
  pub worn : (i : ℕ) → AreWorn (λ v. i) f.slots → AreWorn (ahead_of u i) g.slots

none_ahead : (v n : ℕ) → ahead_of 0 n v ≡ n
none_ahead v n = let no : nat_lt v 0 ≡ false = search (rules, tt) in cond-false (nat_lt v 0) (n + 1) n no

pub none_turned : (f : FleetState) → IsFleet f → IsTurning f (length f.slots) 0 f []
none_turned f is =
    let whole : length f.slots - 0 ≡ length f.slots = omega arith in
    record {
      chart = refl;
      rest = ap (λ (n : ℕ). after_turns (machine_at f) (range_with_len 0 n)) (whole ∙ sym (units_long f));
      replies_are = ap (λ (n : ℕ). turn_replies (machine_at f) (range_with_len 0 n)) (whole ∙ sym (units_long f));
      fleet = is;
      worn = λ i are v s at. let P : ℕ → Type 0 = λ k. IsWorn k s in subst P (sym (none_ahead v i)) (are v s at);
    }

-- there is room for a turn
here_ahead : (u n : ℕ) → ahead_of u n u ≡ n
here_ahead u n = let no : nat_lt u u ≡ false = search (rules, tt) in cond-false (nat_lt u u) (n + 1) n no

pub turn_room : (f g : FleetState) (n u : ℕ) (replies : List TurnReply) → IsTurning f n u g replies → HaveRoom f → HasRoom g u
turn_room f g n u replies so_far room = record {
  n = room.n;
  few = room.few;
  worn = λ s at. let P : ℕ → Type 0 = λ k. IsWorn k s in subst P (here_ahead u room.n) (so_far.worn room.n room.worn u s at);
}

more_ahead : (u n v : ℕ) → one_more u (ahead_of u n) v ≡ ahead_of (u + 1) n v
more_ahead u n v = go (v == u) refl
  where
    go : (b : Bool) → (v == u) ≡ b → cond b (ahead_of u n v + 1) (ahead_of u n v) ≡ ahead_of (u + 1) n v
    go true e =
        let same : v ≡ u = eqb-true v u e in
        let yes : nat_lt v (u + 1) ≡ true = search (rules, same) in
        ap (λ (w : ℕ). ahead_of u n w + 1) same ∙ ap (λ (k : ℕ). k + 1) (here_ahead u n) ∙ sym (cond-true (nat_lt v (u + 1)) (n + 1) n yes)
    go false e = ap (λ (c : Bool). cond c (n + 1) n) (by_test (nat_lt v u) refl)
      where
        other : v ≢ u
        other same = let yes : (v == u) ≡ true = eq-eqb v u same in cc

        by_test : (c : Bool) → nat_lt v u ≡ c → nat_lt v u ≡ nat_lt v (u + 1)
        by_test true less =
            let a : v < u = search (rules, less) in
            let b : nat_lt v (u + 1) ≡ true = search (rules, a) in
            less ∙ sym b
        by_test false not_less =
            let a : u ≤ v = search (rules, not_less) in
            let c : u + 1 ≤ v = omega (arith, a, other) in
            let b : nat_lt v (u + 1) ≡ false = search (rules, c) in
            not_less ∙ sym b

pub one_turned : (f g k : FleetState) (n : ℕ) (u : UnitId) (replies : List TurnReply) (r : TurnReply) → IsTurning f n u.0 g replies → u.0 < n → Leads g (line.Turn u) (reply.Turned r) k → WearsOne u.0 g k →
    IsTurning f n (u.0 + 1) k (replies ++ r ∷ [])
one_turned f g k n u replies r so_far lt led worn =
    let left : suc (n - (u.0 + 1)) ≡ n - u.0 = omega (arith, lt) in
    record {
      chart = led.chart ∙ so_far.chart;
      rest = ap (λ (m : CountingMachine). after_turns m (range_with_len (u.0 + 1) (n - (u.0 + 1)))) (sym (turned_is g k u r led))
          ∙ ap (λ (j : ℕ). after_turns (machine_at g) (range_with_len u.0 j)) left
          ∙ so_far.rest;
      replies_are = append_assoc replies (r ∷ []) (turn_replies (machine_at k) (range_with_len (u.0 + 1) (n - (u.0 + 1))))
          ∙ ap₂ (λ (x : TurnReply) (m : CountingMachine). replies ++ x ∷ turn_replies m (range_with_len (u.0 + 1) (n - (u.0 + 1)))) (sym (turn_reply_is g k u r led)) (sym (turned_is g k u r led))
          ∙ ap (λ (j : ℕ). replies ++ turn_replies (machine_at g) (range_with_len u.0 j)) left
          ∙ so_far.replies_are;
      fleet = led.fleet;
      worn = λ i are v s at. let P : ℕ → Type 0 = λ k. IsWorn k s in subst P (more_ahead u.0 i v) (worn (ahead_of u.0 i) (so_far.worn i are) v s at);
    }

pub all_turned : (f g : FleetState) (n u : ℕ) (replies : List TurnReply) → IsTurning f n u g replies → n ≤ u → Comes f (after_turns (machine_at f) (all_units (machine_at f))) g
all_turned f g n u replies so_far past =
    let none : n - u ≡ 0 = omega (arith, past) in
    record { chart = so_far.chart; machine = ap (λ (j : ℕ). after_turns (machine_at g) (range_with_len u j)) (sym none) ∙ so_far.rest; fleet = so_far.fleet }

pub all_replies : (f g : FleetState) (n u : ℕ) (replies : List TurnReply) → IsTurning f n u g replies → n ≤ u → replies ≡ turn_replies (machine_at f) (all_units (machine_at f))
all_replies f g n u replies so_far past =
    let none : n - u ≡ 0 = omega (arith, past) in
    sym (append-nil replies) ∙ ap (λ (j : ℕ). replies ++ turn_replies (machine_at g) (range_with_len u j)) (sym none) ∙ so_far.replies_are

pub worn_more : (k n : ℕ) (s : SlotState) → k ≤ n → IsWorn k s → IsWorn n s
worn_more k n s le worn = let a = worn.clock in let b = worn.records in record { clock = omega (arith, a, le); records = omega (arith, b, le) }

ahead_most : (u n v : ℕ) → ahead_of u n v ≤ n + 1
ahead_most u n v = go (nat_lt v u)
  where
    go : (b : Bool) → cond b (n + 1) n ≤ n + 1
    go true = omega arith
    go false = omega arith

pub all_worn : (f g : FleetState) (n u : ℕ) (replies : List TurnReply) → IsTurning f n u g replies → WearsAll f g
all_worn f g n u replies so_far i are v s at = worn_more (ahead_of u i v) (i + 1) s (ahead_most u i v) (so_far.worn i are v s at)

-- A ROUND
pub round_leads : (f g k : FleetState) (replies : List TurnReply) → Comes f (after_exchanges (machine_at f) (all_units (machine_at f))) g → replies ≡ turn_replies (machine_at g) (all_units (machine_at g)) →
    Comes g (after_turns (machine_at g) (all_units (machine_at g))) k → Leads f line.Round (reply.Round replies) k
unfolding act round
round_leads f g k replies exchanged same turned = record {
  chart = turned.chart ∙ exchanged.chart;
  machine = (
    true,
    ap round_from (sym exchanged.machine) ∙ ap₂ (λ (rs : List TurnReply) (m : CountingMachine). acted (reply.Round rs) m) (sym same) (sym turned.machine),
  );
  fleet = turned.fleet;
}
  where
    acted : Reply → CountingMachine → Acted
    acted r after = record { reply = r; after = after }

pub round_past : (f : FleetState) → IsPast f.chart (after_exchanges (machine_at f) (all_units (machine_at f))) → IsPast f.chart (round (machine_at f)).after
round_past f past = past_on f.chart (after_exchanges (machine_at f) (all_units (machine_at f))) (round (machine_at f)).after (exchanged_round f.chart (machine_at f)) past
