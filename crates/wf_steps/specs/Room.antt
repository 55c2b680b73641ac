-- Of other calls. What contracts see of a history that is held, and of a unit without its disk.
use Rattle.std.specs.Prelude.{ℕ}
use Rattle.wf_parts.specs.declared.data.PartData.{PartData}
use Rattle.wf_histories.specs.Histories.{History}

-- a history, and for how many admissions and Turns more it has room
pub record Kept : Type 0 where
  pub past : History
  pub admit_room : ℕ
  pub turn_room : ℕ

-- a unit: its part, its history, and for how many admissions, Turns and items more it has room
pub record Replicated : Type 0 where
  pub part : PartData
  pub past : History
  pub admit_room : ℕ
  pub turn_room : ℕ
  pub item_room : ℕ
