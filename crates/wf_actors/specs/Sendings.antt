-- Of other calls. What a unit sends its peers in a round.
use Rattle.std.specs.Prelude.{◌≡◌, ◌⊎◌, ℕ, ◌+◌, ◌-◌, ◌≤◌, List, [], ◌∷◌, ◌++◌, map, slice_get}
use Rattle.std.specs.Option.{option_map_or}
use Rattle.std.specs.List.{range_with_len}
use Rattle.wf_model.specs.declared.update.Update.{Update}
use Rattle.wf_parts.specs.declared.data.PartData.{PartData}
use Rattle.wf_histories.specs.Histories.{History, taken}
use Rattle.wf_exchange.specs.declared.port.Port.{Port}
use Rattle.wf_exchange.specs.Ports.{pushed_to}
use Rattle.wf_server.specs.Servers.{Server}
use Rattle.wf_server.specs.Sending.{sent_to}
use Rattle.wf_server.specs.Inbox.{IsPeer}
use Rattle.wf_actors.specs.declared.outbox.Outbox.{Outbox}

-- what waits for unit v
abbrev pub waiting_for : List Outbox → ℕ → List Update
waiting_for boxes v = option_map_or (λ box. box.waiting.items) (slice_get boxes v) []

-- all that went into the ring to v, and what waits behind it
abbrev pub sent_on : Port → List Outbox → ℕ → List Update
sent_on port boxes v = pushed_to port v ++ waiting_for boxes v

-- the own updates for v, from step first on up to the next one
abbrev pub row_for : PartData → History → ℕ → ℕ → List Update
row_for part past v first = map (sent_to part past v) (range_with_len first (taken past + 2 - first))

-- ALL IS SENT BY NOW, if it was before, whatever the first step was: to each peer the own updates up to the next one.
pub record Sends {D : Type 0} (old new : Server D) (port port_now : Port) (boxes boxes_now : List Outbox) : Type 0 where
  pub each : (v first : ℕ) → IsPeer old.part v → first ≤ taken old.past + 2 → sent_on port boxes v ≡ row_for old.part old.past v first → sent_on port_now boxes_now v ≡ row_for new.part new.past v first

-- or the first of them alone
pub record SendsSome {D : Type 0} (old new : Server D) (port port_now : Port) (boxes boxes_now : List Outbox) : Type 0 where
  pub each : (v first : ℕ) → IsPeer old.part v → first ≤ taken old.past + 2 → sent_on port boxes v ≡ row_for old.part old.past v first →
      (rest : List Update) × (row_for new.part new.past v first ≡ sent_on port_now boxes_now v ++ rest)

-- an update of this step went to each peer below `most`, and nothing to another unit
pub record SentUpTo (part : PartData) (past : History) (step most : ℕ) (port port_now : Port) (boxes boxes_now : List Outbox) : Type 0 where
  pub sent : (v : ℕ) → IsPeer part v → v + 1 ≤ most → sent_on port_now boxes_now v ≡ sent_on port boxes v ++ sent_to part past v step ∷ []
  pub unsent : (v : ℕ) → most ≤ v → sent_on port_now boxes_now v ≡ sent_on port boxes v

-- to some of the peers
abbrev pub SentToSome : PartData → History → ℕ → (port port_now : Port) → (boxes boxes_now : List Outbox) → Type 0
SentToSome part past step port port_now boxes boxes_now =
    (v : ℕ) → IsPeer part v → (sent_on port_now boxes_now v ≡ sent_on port boxes v ++ sent_to part past v step ∷ []) ⊎ (sent_on port_now boxes_now v ≡ sent_on port boxes v)
