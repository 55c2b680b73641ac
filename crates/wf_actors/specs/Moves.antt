-- Of other calls. What a unit did since an earlier moment of a round.
use Rattle.std.specs.Prelude.{◌≡◌, ◌≤◌, ◌<◌, ℕ, Bool, List, Option, Some, None}
use Rattle.wf_disk.specs.Disk.{Told}
use Rattle.wf_histories.specs.Histories.{History, taken}
use Rattle.wf_exchange.specs.declared.port.Port.{Port}
use Rattle.wf_exchange.specs.Ports.{ways, popped_from}
use Rattle.wf_server.specs.Images.{Begins}
use Rattle.wf_server.specs.Servers.{Server, told_by}
use Rattle.wf_actors.specs.Keeping.{KeepsAll}
use Rattle.wf_actors.specs.Taking.{Anywhere}
use Rattle.wf_actors.specs.Peers.{TakesRows}
use Rattle.wf_actors.specs.Sendings.{Sends}
use Rattle.wf_actors.specs.declared.outbox.Outbox.{Outbox}

-- It has its part and its rings still. What was kept of it is kept, its disk's count of faults didn't fall, it took no step back, and what
-- came of its peers is taken in, by its server and by each Turn.
pub record Moves {D : Type 0} (told : D → Told) (old new : Server D) (port port_now : Port) (refused refused_now : Bool) : Type 0 where
  pub part : new.part ≡ old.part
  pub keeps : KeepsAll told old new
  pub faults : (told_by told old).faults ≤ (told_by told new).faults
  pub on : taken old.past ≤ taken new.past
  pub rings : ways port_now ≡ ways port
  pub rows : TakesRows Anywhere old new (popped_from port) (popped_from port_now) refused refused_now

-- there is no target, or it is further on
abbrev pub IsBelow : Option ℕ → ℕ → Type 0
IsBelow None n = Unit {0}
IsBelow (Some target) n = n < target

-- IT ANSWERED what came to its desks, and did nothing else: it has its part and what it holds of its peers still, what was kept of it is
-- kept, its disk's count of faults didn't fall, and it took no Turn. What it sends its peers is as before.
pub record Admits {D : Type 0} (told : D → Told) (old new : Server D) : Type 0 where
  pub part : new.part ≡ old.part
  pub came : new.came ≡ old.came
  pub early : new.early ≡ old.early
  pub turns : new.past.turns ≡ old.past.turns
  pub keeps : KeepsAll told old new
  pub faults : (told_by told old).faults ≤ (told_by told new).faults
  pub sends : (port : Port) (boxes : List Outbox) → Sends old new port port boxes boxes

-- the history goes on, by Turns alone
pub record TakesTurns (old new : History) : Type 0 where
  pub begins : Begins old new
  pub admissions : new.admissions ≡ old.admissions
