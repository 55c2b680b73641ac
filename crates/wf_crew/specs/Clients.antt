-- Of other calls. What a client hands over.
use Rattle.std.specs.Prelude.{◌≡◌, ◌⊎◌, ℕ, ◌+◌, ◌*◌, ◌^◌, ◌≤◌, ◌<◌, List, length, map, take}
use Rattle.std.specs.List.{enumerate_from}
use Rattle.wf_model.specs.declared.ids.EventId.{EventId}
use Rattle.wf_model.specs.declared.outer.Outer.TheVariants.{Happen}
use Rattle.wf_exchange.specs.declared.lines.LineItem.{LineItem}
use Rattle.wf_exchange.specs.Rings.{pushed, ring_in, free}
use Rattle.wf_crew.specs.declared.client.ClientActor.{ClientActor}

-- line i of client c, which counts from 1
abbrev pub line_item : ℕ → ℕ × EventId → LineItem
line_item c (i, event) = record { request = c * 2 ^ 32 + i; outer = Happen event }

-- its lines, in order
abbrev pub line_items : ClientActor → List LineItem
line_items client = map (line_item client.number) (enumerate_from 1 client.events)

-- the first of its lines went in, and nothing else
pub record HasSent (client : ClientActor) : Type 0 where
  pub within : client.sent ≤ length client.events
  pub few : length client.events < 2 ^ 32
  pub first : pushed client.end ≡ take client.sent (line_items client)

-- it is the same client, and sent more of its lines, or none
pub record SendsOn (old new : ClientActor) : Type 0 where
  pub number : new.number ≡ old.number
  pub events : new.events ≡ old.events
  pub ring : ring_in new.end ≡ ring_in old.end
  pub on : old.sent ≤ new.sent
  pub stands : HasSent new

-- IN A ROUND all its lines went in, or as many more as its end of the ring knew free slots at the begin
abbrev pub SendsMost : (old new : ClientActor) → Type 0
SendsMost old new = (new.sent ≡ length new.events) ⊎ (old.sent + free old.end ≤ new.sent)
