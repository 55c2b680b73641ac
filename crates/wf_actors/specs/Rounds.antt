-- Of other calls. What a unit does in a round.
use Rattle.std.specs.Prelude.{◌≡◌, ◌+◌, ◌≤◌, ◌<◌, ℕ, false, Option, Some, None, length, map, IfSome}
use Rattle.wf_disk.specs.Disk.{Told}
use Rattle.wf_histories.specs.Histories.{taken}
use Rattle.wf_exchange.specs.Ports.{CanReach}
use Rattle.wf_server.specs.Inbox.{AllCame}
use Rattle.wf_actors.specs.declared.stop.Stop.{Stop}
use Rattle.wf_actors.specs.declared.unit.UnitActor.{UnitActor}
use Rattle.wf_actors.specs.Sendings.{Sends, SendsSome}
use Rattle.wf_actors.specs.Answering.{ring_at, KeepsAnswered, KeepsAsked}
use Rattle.wf_actors.specs.Stops.{IsStopOf}
use Rattle.wf_actors.specs.Moves.{Moves, IsBelow}

module _ {D : Type 0} where
  -- before a round: no call of its disk failed, it didn't stop, and it has a ring to each unit and an outbox for each
  pub record IsReady (actor : UnitActor D) : Type 0 where
    pub working : actor.node.journal.failed ≡ false
    pub on : actor.stop ≡ None
    pub reach : (v : ℕ) → v < actor.node.part.units → CanReach actor.port v
    pub boxes : length actor.outboxes.items ≡ actor.node.part.units

  -- what it does in any case
  pub record Ran (told : D → Told) (target : Option ℕ) (old new : UnitActor D) : Type 0 where
    pub moves : Moves told old.node new.node old.port new.port old.refused new.refused
    pub boxes : length new.outboxes.items ≡ length old.outboxes.items
    pub rings : map ring_at new.desks.items ≡ map ring_at old.desks.items
    pub sends : SendsSome old.node new.node old.port new.port old.outboxes.items new.outboxes.items
    pub asked : KeepsAsked old.node.past new.node.past old.desks.items new.desks.items
    -- at most 8 steps, and none past the target
    pub most : taken new.node.past ≤ taken old.node.past + 8
    pub within : IfSome target (λ t. taken old.node.past ≤ t → taken new.node.past ≤ t)

  -- and if it didn't stop: all is sent, and all that came to its desks is answered; and if the updates of its next step had come, and the
  -- target is further on, it took a step at least
  pub record RanOn (target : Option ℕ) (old new : UnitActor D) : Type 0 where
    pub working : new.node.journal.failed ≡ false
    pub sends : Sends old.node new.node old.port new.port old.outboxes.items new.outboxes.items
    pub answered : KeepsAnswered old.node.past new.node.past old.desks.items new.desks.items
    pub goes : AllCame old.node.part old.node.came → IsBelow target (taken old.node.past) → taken old.node.past < taken new.node.past

  abbrev pub RanTo : (D → Told) → Option ℕ → (old new : UnitActor D) → Option Stop → Type 0
  RanTo told target old new None = RanOn target old new
  RanTo told target old new (Some stop) = IsStopOf told old.node new.node stop
