-- What comes of a machine has its messages.
use Rattle.std.proofs.Common.{◌≡◌, ℕ, ◌+◌, ◌-◌, nat_le, Bool, true, false, List, [], ◌∷◌, ◌++◌, length, Option, Some, None, refl, sym, ap, ◌∙◌, append_assoc}
use Rattle.std.specs.List.{range_with_len}
use Rattle.std.proofs.lemmas.List.{append-nil}
use Rattle.wf_model.specs.declared.ids.UnitId.{UnitId}
use Rattle.wf_model.specs.declared.chart.Chart.{Chart}
use Rattle.wf_machine.specs.declared.line.Line.{Line}
use Rattle.wf_machine.specs.declared.line.Line.TheVariants as line
use Rattle.wf_machine.specs.Server.{Health, Works, Failed, IsDown, taken}
use Rattle.wf_machine.specs.Machine.{CountingMachine, Message, all_units, server}
use Rattle.wf_machine.specs.Lines.{peers, after_turn, letters, send_by, send, received, come_by, deliver_by, deliver, after_delivery, after_exchange, after_posts, after_exchanges, after_turns, admit, round, act}
use Rattle.wf_machine.specs.Account.{MachineGrows}
use Rattle.wf_machine.specs.Machine.{message_at}
use Rattle.wf_machine.proofs.Stays.{and_on, act_grows}
use Rattle.wf_world.specs.Fleets.{Follows}

abbrev unit : ℕ → UnitId
unit u = record { 0 = u }

-- ONE AFTER ANOTHER

pub follows_on : (m a b : CountingMachine) → Follows m a → Follows a b → Follows m b
follows_on m a b p q = record {
  grows = and_on m a b p.grows q.grows;
  more = p.more ++ q.more;
  messages = q.messages ∙ ap (λ (xs : List Message). xs ++ q.more) p.messages ∙ append_assoc m.messages p.more q.more;
}

same_messages : (m a : CountingMachine) → MachineGrows m a → a.messages ≡ m.messages → Follows m a
same_messages m a grows same = record { grows = grows; more = []; messages = same ∙ sym (append-nil m.messages) }

module _ (chart : Chart) where
  pub stays : (m : CountingMachine) → Follows m m
  unfolding act
  stays m = same_messages m m (act_grows chart m false (line.Show (unit 0))) refl

  -- A SEND
  sent_by : (h : Health) (m : CountingMachine) (u v : ℕ) → (more : List Message) × ((send_by h m u v).after.messages ≡ m.messages ++ more)
  sent_by Works m u v = (letters u v (taken (server m u)), refl)
  sent_by Failed m u v = (letters u v (taken (server m u)), refl)
  sent_by IsDown m u v = ([], sym (append-nil m.messages))

  send_grows : (m : CountingMachine) (u v : ℕ) → MachineGrows m (send m u v).after
  unfolding act
  send_grows m u v = act_grows chart m false (line.Send (unit u) (unit v))

  pub send_follows : (m : CountingMachine) (u v : ℕ) → Follows m (send m u v).after
  unfolding send
  send_follows m u v = let sent = sent_by (server m u).health m u v in record { grows = send_grows m u v; more = sent.0; messages = sent.1 }

  -- A DELIVERY
  came : (m : CountingMachine) (x : Message) (b : Bool) → nat_le x.step (taken (server m x.receiver)) ≡ b → (c : Bool) → (server m x.receiver).came x.sender x.step ≡ c → (received m x (server m x.receiver)).after.messages ≡ m.messages
  came m x true e c f = rw e refl
  came m x false e true f = rw e (rw f refl)
  came m x false e false f = rw e (rw f refl)

  came_by : (m : CountingMachine) (x : Message) (h : Health) → (come_by h m x).after.messages ≡ m.messages
  came_by m x Works = came m x (nat_le x.step (taken (server m x.receiver))) refl ((server m x.receiver).came x.sender x.step) refl
  came_by m x Failed = came m x (nat_le x.step (taken (server m x.receiver))) refl ((server m x.receiver).came x.sender x.step) refl
  came_by m x IsDown = refl

  delivered_by : (m : CountingMachine) (o : Option Message) → (deliver_by m o).after.messages ≡ m.messages
  delivered_by m None = refl
  delivered_by m (Some x) = came_by m x (server m x.receiver).health

  pub deliver_messages : (m : CountingMachine) (n : ℕ) → (deliver m n).after.messages ≡ m.messages
  unfolding deliver
  deliver_messages m n = delivered_by m (message_at m n)

  deliver_grows : (m : CountingMachine) (n : ℕ) → MachineGrows m (deliver m n).after
  unfolding act
  deliver_grows m n = act_grows chart m false (line.Deliver n)

  deliver_follows : (m : CountingMachine) (n : ℕ) → Follows m (deliver m n).after
  deliver_follows m n = same_messages m (deliver m n).after (deliver_grows m n) (deliver_messages m n)

  -- A ROUND
  pub deliveries_follow : (ns : List ℕ) (m : CountingMachine) → Follows m (after_delivery m ns)
  deliveries_follow [] m = stays m
  deliveries_follow (n ∷ ns) m = follows_on m (deliver m n).after (after_delivery (deliver m n).after ns) (deliver_follows m n) (deliveries_follow ns (deliver m n).after)

  -- what u sends is in what comes of the exchange
  pub sent_exchanged : (m : CountingMachine) (u v : ℕ) → Follows (send m u v).after (after_exchange m u v)
  sent_exchanged m u v = deliveries_follow (range_with_len (length m.messages + 1) (length (send m u v).after.messages - length m.messages)) (send m u v).after

  pub exchange_follows : (m : CountingMachine) (u v : ℕ) → Follows m (after_exchange m u v)
  exchange_follows m u v = follows_on m (send m u v).after (after_exchange m u v) (send_follows m u v) (sent_exchanged m u v)

  pub posts_follow : (vs : List ℕ) (m : CountingMachine) (u : ℕ) → Follows m (after_posts m u vs)
  posts_follow [] m u = stays m
  posts_follow (v ∷ vs) m u = follows_on m (after_exchange m u v) (after_posts (after_exchange m u v) u vs) (exchange_follows m u v) (posts_follow vs (after_exchange m u v) u)

  pub exchanges_follow : (us : List ℕ) (m : CountingMachine) → Follows m (after_exchanges m us)
  exchanges_follow [] m = stays m
  exchanges_follow (u ∷ us) m =
      follows_on m (after_posts m u (peers m u)) (after_exchanges (after_posts m u (peers m u)) us) (posts_follow (peers m u) m u) (exchanges_follow us (after_posts m u (peers m u)))

  turn_grows : (m : CountingMachine) (u : ℕ) → MachineGrows m (after_turn m u)
  unfolding act
  turn_grows m u = act_grows chart m false (line.Turn (unit u))

  pub turns_follow : (us : List ℕ) (m : CountingMachine) → Follows m (after_turns m us)
  turns_follow [] m = stays m
  turns_follow (u ∷ us) m = follows_on m (after_turn m u) (after_turns (after_turn m u) us) (same_messages m (after_turn m u) (turn_grows m u) refl) (turns_follow us (after_turn m u))

  -- and what was sent is in what comes of the round
  pub exchanged_round : (m : CountingMachine) → Follows (after_exchanges m (all_units m)) (round m).after
  unfolding round
  exchanged_round m = turns_follow (all_units (after_exchanges m (all_units m))) (after_exchanges m (all_units m))

  -- A LINE
  nothing : (m : CountingMachine) → (more : List Message) × (m.messages ≡ m.messages ++ more)
  nothing m = ([], sym (append-nil m.messages))

  pub act_messages : (m : CountingMachine) (stands : Bool) (x : Line) → (more : List Message) × ((act chart m stands x).after.messages ≡ m.messages ++ more)
  unfolding act admit
  act_messages m stands (line.Admit u request outer) = nothing m
  act_messages m stands (line.Turn u) = nothing m
  act_messages m stands (line.Send u v) = let sent = send_follows m u.0 v.0 in (sent.more, sent.messages)
  act_messages m stands (line.Deliver n) = ([], deliver_messages m n ∙ sym (append-nil m.messages))
  act_messages m stands (line.Crash u outcome) = nothing m
  act_messages m stands (line.Arm u n what) = nothing m
  act_messages m stands (line.Recover u) = nothing m
  act_messages m stands (line.Show u) = nothing m
  act_messages m stands (line.Items u) = nothing m
  act_messages m stands line.Round =
      let went = follows_on m (after_exchanges m (all_units m)) (round m).after (exchanges_follow (all_units m) m) (exchanged_round m) in
      (went.more, went.messages)
