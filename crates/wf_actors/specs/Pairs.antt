-- Of other calls. What all units hand to each other after a round.
use Rattle.std.specs.Prelude.{◌≡◌, ◌≢◌, ℕ, ◌<◌, List, [], Option, Some, option_map, length, slice_get}
use Rattle.wf_model.specs.declared.update.Update.{Update}
use Rattle.wf_exchange.specs.Ports.{Ways, ways, unit_of, AreJoined, pushed_to, popped_from}
use Rattle.wf_server.specs.Inbox.{IsPeer}
use Rattle.wf_actors.specs.declared.unit.UnitActor.{UnitActor}
use Rattle.wf_actors.specs.Taking.{Nearby}
use Rattle.wf_actors.specs.Peers.{TakesRows}
use Rattle.wf_actors.specs.Sendings.{sent_on, waiting_for}

-- what came of a unit, what went into the ring to it, and what waits behind that
pub record Traffic : Type 0 where
  pub came : List Update
  pub pushed : List Update
  pub waits : List Update

-- ALL THAT THE SENDER SENT CAME, and nothing waits; for the traffic of the reader with the sender, and of the sender with the reader
pub record HasAll (reader sender : Traffic) : Type 0 where
  pub came : reader.came ≡ sender.pushed
  pub none_waits : sender.waits ≡ []

abbrev pub IfBoth : (Traffic → Traffic → Type 0) → (reader sender : Option Traffic) → Type 0
IfBoth fact o r = (reader sender : Traffic) → o ≡ Some reader → r ≡ Some sender → fact reader sender

-- place x, y is none of the two between first and second
abbrev pub AreApart : (x y first second : ℕ) → Type 0
AreApart x y first second = (x ≡ first → y ≢ second) × (x ≡ second → y ≢ first)

module _ {D : Type 0} where
  -- a unit's rings
  abbrev pub ways_of : UnitActor D → Ways
  ways_of actor = ways actor.port

  -- it is unit u of so many: so are its part and its port, and it has an outbox for each unit
  pub record IsUnit (units u : ℕ) (actor : UnitActor D) : Type 0 where
    pub part : actor.node.part.unit.0 ≡ u
    pub among : actor.node.part.units ≡ units
    pub port : unit_of actor.port ≡ u
    pub boxes : length actor.outboxes.items ≡ units

  abbrev pub AreUnits : List (UnitActor D) → Type 0
  AreUnits units = (u : ℕ) (actor : UnitActor D) → slice_get units u ≡ Some actor → IsUnit (length units) u actor

  -- it may be handed what the sender sent it
  pub record MayTakeOver (reader sender : UnitActor D) : Type 0 where
    pub joined : AreJoined (ways reader.port) (ways sender.port)
    pub back : AreJoined (ways sender.port) (ways reader.port)
    pub peer : IsPeer reader.node.part (unit_of sender.port)
    pub box : unit_of reader.port < length sender.outboxes.items

  -- A UNIT AFTER THE HAND-OVER: its server took in what came, of updates that reach no further than the second next step; what it sent its
  -- peers is the same; and all else is as before.
  pub record TakesOver (old new : UnitActor D) : Type 0 where
    pub rest : new.node ≡ record old.node { came = new.node.came; early = new.node.early }
    pub rings : ways new.port ≡ ways old.port
    pub boxes : length new.outboxes.items ≡ length old.outboxes.items
    pub sent : (v : ℕ) → sent_on new.port new.outboxes.items v ≡ sent_on old.port old.outboxes.items v
    pub rows : TakesRows Nearby old.node new.node (popped_from old.port) (popped_from new.port) old.refused new.refused
    pub desks : new.desks ≡ old.desks
    pub stop : new.stop ≡ old.stop

  -- so do all
  pub record AllTakeOver (units units_now : List (UnitActor D)) : Type 0 where
    pub each : (u : ℕ) (old new : UnitActor D) → slice_get units u ≡ Some old → slice_get units_now u ≡ Some new → TakesOver old new

  -- a unit's traffic with unit v
  abbrev pub traffic : UnitActor D → ℕ → Traffic
  traffic actor v = record { came = popped_from actor.port v; pushed = pushed_to actor.port v; waits = waiting_for actor.outboxes.items v }

  -- unit u's
  abbrev pub traffic_at : List (UnitActor D) → (u v : ℕ) → Option Traffic
  traffic_at units u v = option_map (λ actor. traffic actor v) (slice_get units u)

  -- all that unit v sent unit u came
  abbrev pub HasAllOf : List (UnitActor D) → (u v : ℕ) → Type 0
  HasAllOf units u v = IfBoth HasAll (traffic_at units u v) (traffic_at units v u)
