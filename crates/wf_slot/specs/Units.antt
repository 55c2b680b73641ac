-- Of other calls. A unit as a world keeps it, and the server of the machine that counts for it.
use Rattle.std.specs.Prelude.{ℕ, map, is_some, Option, None}
use Rattle.wf_model.specs.declared.update.Update.{Update}
use Rattle.wf_machine.specs.declared.admission.Admission as of
use Rattle.wf_machine.specs.Strokes.{Fuse}
use Rattle.wf_machine.specs.Server.{Health, Works, Failed, IsDown, Record, Server, doubted}
use Rattle.wf_histories.specs.Histories.{Admission, History, seals}
use Rattle.wf_worlds.specs.Worlds.{first_history}
use Rattle.wf_disk.specs.declared.arm.Arm.{Arm}
use Rattle.wf_disk.specs.declared.arm.Arm.TheVariants.{Fail, Crash}

-- whether it is up; the history that stands in its journal for sure; what it holds of its peers, by unit and step; its fuse; and the record that
-- may stand in its journal or not
pub record UnitState : Type 0 where
  pub health : Health
  pub past : History
  pub held : ℕ → ℕ → Option Update
  pub fuse : Option Fuse
  pub doubt : Option Record

-- an admission of a history as the machine has it
abbrev pub counted : Admission → of.Admission
counted a = record { request = a.request; outer = a.outer }

-- THE SERVER THAT COUNTS FOR IT
abbrev pub server_of : UnitState → Server
server_of unit =
    record {
      health = unit.health;
      admissions = map counted unit.past.admissions;
      sealed = seals unit.past;
      came = λ v j. is_some (unit.held v j);
      fuse = unit.fuse;
      doubt = unit.doubt;
    }

-- it holds nothing of its peers
abbrev pub none_held : ℕ → ℕ → Option Update
none_held v j = None

-- it went down: what it held is lost
abbrev pub down : UnitState → UnitState
down unit = record unit { health = IsDown; held = none_held }

-- the arm went off at stroke n of a write of this record, and is used up
abbrev pub struck : UnitState → ℕ → Arm → Record → UnitState
struck unit n Fail r = record unit { health = Failed; fuse = None; doubt = doubted n r }
struck unit n (Crash outcome) r = record (down unit) { fuse = None; doubt = doubted n r }

-- a unit to which nothing was done
abbrev pub new_unit : ℕ → UnitState
new_unit u = record { health = Works; past = first_history u; held = none_held; fuse = None; doubt = None }
