-- One server of the counting machine: what it counted, and how it writes.
use Rattle.std.specs.Prelude.{ℕ, zero, suc, ◌+◌, ◌-◌, ◌++◌, ◌&&◌, nat_lt, min, if◌then◌else◌, Bool, false, List, [], ◌∷◌, length, take, drop, sum, map, slice_get, unwrap_or, Option, Some, None}
use Rattle.std.specs.List.{range_with_len}
use Rattle.wf_model.specs.Limits.{max_sealed}
use Rattle.wf_model.specs.declared.outer.Outer.{Outer}
use Rattle.wf_disk.specs.declared.arm.Arm.{Arm}
use Rattle.wf_disk.specs.declared.arm.Arm.TheVariants as arms
use Rattle.wf_machine.specs.declared.admission.Admission.{Admission}
use Rattle.wf_machine.specs.Strokes.{Fuse, Met, Done, SetOff, strokes}
use Rattle.wf_machine.specs.Bars.{Bar, bar_of}

-- A server works; or its disk failed, and it shows, sends and receives as before but writes nothing until it is recovered;
-- or it is down.
pub data Health : Type 0 where
  Works : Health
  Failed : Health
  IsDown : Health

-- what a server writes: an admission, or a turn with how many admissions it seals
pub data Record : Type 0 where
  Admits : Admission → Record
  Turns : ℕ → Record

pub record Server : Type 0 where
  pub health : Health
  pub admissions : List Admission
  -- how many admissions each turn sealed
  pub sealed : List ℕ
  -- whether the update of this unit and step has come
  pub came : ℕ → ℕ → Bool
  pub fuse : Option Fuse
  -- the record that may stand in the journal or not
  pub doubt : Option Record

abbrev pub nothing : ℕ → ℕ → Bool
nothing v j = false

abbrev pub new_server : Server
new_server = record { health = Works; admissions = []; sealed = []; came = nothing; fuse = None; doubt = None }

-- how many steps it has taken
abbrev pub taken : Server → ℕ
taken s = length s.sealed

-- how many admissions no turn has sealed
abbrev pub unsealed : Server → ℕ
unsealed s = length s.admissions - sum s.sealed

-- ---- what a turn sealed

-- how many admissions the turns before turn j + 1 sealed
abbrev pub sealed_before : List ℕ → ℕ → ℕ
sealed_before sealed j = sum (take j sealed)

abbrev pub sealed_at : List ℕ → ℕ → ℕ
sealed_at sealed j = unwrap_or (slice_get sealed j) 0

-- the numbers of the admissions that turn j sealed, where turns count from 1
abbrev pub numbers_sealed : List ℕ → ℕ → List ℕ
numbers_sealed sealed zero = []
numbers_sealed sealed (suc j) = range_with_len (sealed_before sealed j + 1) (sealed_at sealed j)

-- and what they let in
abbrev pub outers_sealed : List Admission → List ℕ → ℕ → List Outer
outers_sealed admissions sealed zero = []
outers_sealed admissions sealed (suc j) = map (λ a. a.outer) (take (sealed_at sealed j) (drop (sealed_before sealed j) admissions))

-- ---- writing

-- what came of steps that are taken is forgotten: no reply asks for it
abbrev pub later_than : ℕ → (ℕ → ℕ → Bool) → ℕ → ℕ → Bool
later_than k came v j = nat_lt k j && came v j

-- the record stands
unfoldable pub stand : Record → Server → Server
stand (Admits a) s = record s { admissions = s.admissions ++ a ∷ [] }
stand (Turns n) s = record s { sealed = s.sealed ++ n ∷ []; came = later_than (taken s + 1) s.came }

-- it goes down: what came is lost
abbrev pub fallen : Server → Server
fallen s = record s { health = IsDown; came = nothing }

-- the arm went off, and is used up
abbrev pub broken : Arm → Server → Server
broken arms.Fail s = record s { health = Failed; fuse = None }
broken (arms.Crash outcome) s = record (fallen s) { fuse = None }

-- the third stroke of a write opens the record's gate: from it on the record is in doubt
abbrev pub doubted : {A : Type 0} → ℕ → A → Option A
doubted n r = if nat_lt n 3 then None else Some r

abbrev pub written_by : Record → Server → Met → Option Bar × Server
written_by r s (Done fuse) = (None, stand r (record s { fuse = fuse }))
written_by r s (SetOff n what) = (Some (bar_of what), broken what (record s { doubt = doubted n r }))

-- a record is written by four strokes: what hinders it, if anything, and the server after it
unfoldable pub written : Record → Server → Option Bar × Server
written r s = written_by r s (strokes 4 s.fuse)

-- what the next turn would write
abbrev pub next_turn : Server → Record
next_turn s = Turns (min max_sealed (unsealed s))

-- ---- recovery

-- the doubt ends: the record stands, or it doesn't
abbrev pub settled : Bool → Option Record → Server → Server
settled stands None s = s
settled stands (Some r) s = if stands then stand r (record s { doubt = None }) else record s { doubt = None }

abbrev pub recovered_by : Bool → Server → Met → Option Bar × Server
recovered_by stands s (Done fuse) = (None, record (settled stands s.doubt s) { health = Works; came = nothing; fuse = fuse })
recovered_by stands s (SetOff n what) = (Some (bar_of what), record (fallen s) { fuse = None })

-- a recovery is one stroke; until it succeeds a doubt stays
unfoldable pub recovered : Bool → Server → Option Bar × Server
recovered stands s = recovered_by stands s (strokes 1 s.fuse)
