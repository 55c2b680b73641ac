-- Of other calls. One unit of a world, as its callers see it.
use Rattle.std.specs.Prelude.{ℕ, ◌+◌, ◌==◌, min, not, is_some, List, [], filter, if◌then◌else◌, Option, None, option_map}
use Rattle.std.specs.List.{range_with_len}
use Rattle.wf_model.specs.Limits.{max_sealed}
use Rattle.wf_model.specs.declared.update.Update.{Update}
use Rattle.wf_parts.specs.declared.data.PartData.{PartData}
use Rattle.wf_machine.specs.Strokes.{Fuse}
use Rattle.wf_machine.specs.Server.{Health, IsDown, Server, Record as Counted, Admits as CountedAdmits, Turns as CountedTurns}
use Rattle.wf_histories.specs.Histories.{History, taken}
use Rattle.wf_worlds.specs.Growing.{unsealed}
use Rattle.wf_worlds.specs.Worlds.{Record, Admits, Turns}
use Rattle.wf_server.specs.Servers.{held_in}
use Rattle.wf_slot.specs.Units.{UnitState, counted, server_of}

-- its part, and how many strokes its disk made; whether it is up; the history that stands in its journal for sure; by unit the updates that it
-- holds of the next step, and of the one behind it; its fuse; and the record that may stand in its journal or not
pub record SlotState : Type 0 where
  pub part : PartData
  pub clock : ℕ
  pub health : Health
  pub past : History
  pub came : List (Option Update)
  pub early : List (Option Update)
  pub fuse : Option Fuse
  pub doubt : Option Record

-- the update that it holds of unit v's step
abbrev pub held : SlotState → ℕ → ℕ → Option Update
held slot v step =
    if step == taken slot.past + 1 then held_in slot.came v else (if step == taken slot.past + 2 then held_in slot.early v else None)

-- a record behind this history, as the machine counts it
abbrev pub counted_record : History → Record → Counted
counted_record past (Admits a) = CountedAdmits (counted a)
counted_record past (Turns updates) = CountedTurns (min max_sealed (unsealed past))

-- THE UNIT, and the server of the machine that counts for it

abbrev pub unit_of : SlotState → UnitState
unit_of slot =
    record { health = slot.health; past = slot.past; held = held slot; fuse = slot.fuse; doubt = option_map (counted_record slot.past) slot.doubt }

abbrev pub server : SlotState → Server
server slot = server_of (unit_of slot)

-- the other units whose update of the next step it doesn't hold
abbrev pub absent : SlotState → List ℕ
absent slot = filter (λ v. not (is_some (held slot v (taken slot.past + 1)))) (filter (λ v. not (v == slot.part.unit.0)) (range_with_len 0 slot.part.units))

-- it went down: what it held is lost
abbrev pub fallen : SlotState → SlotState
fallen slot = record slot { health = IsDown; came = []; early = [] }
