-- Inner. A unit as its slot keeps it.
use Rattle.std.specs.Prelude.{◌≡◌, ◌⊎◌, ℕ, ◌<◌, ◌^◌, Bool, true, false, List, [], Option, Some, None, option_map}
use Rattle.wf_parts.specs.declared.data.PartData.{PartData}
use Rattle.wf_disk.specs.Memory.{Held, told_of}
use Rattle.wf_machine.specs.Server.{Health, Works, Failed, IsDown}
use Rattle.wf_histories.specs.Histories.{History, taken}
use Rattle.wf_worlds.specs.Worlds.{Record, Admits, Turns, first_history, stood}
use Rattle.wf_server.specs.Images.{Holds}
use Rattle.wf_slot.specs.declared.fuse.Fuse.{Fuse as Kept}
use Rattle.wf_slot.specs.declared.slot.Doubt.{Doubt}
use Rattle.wf_slot.specs.declared.slot.Doubt.TheVariants as doubts
use Rattle.wf_slot.specs.declared.slot.Seat.{Seat}
use Rattle.wf_slot.specs.declared.slot.Seat.TheVariants.{Up, Down, Away}
use Rattle.wf_slot.specs.Fuses.{fuse_of, IsFused}
use Rattle.wf_slot.specs.Slots.{SlotState}

-- the record
abbrev pub record_of : Doubt → Record
record_of (doubts.Admits a) = Admits a
record_of (doubts.Turns updates) = Turns updates

abbrev pub doubt_of : Option Doubt → Option Record
doubt_of doubt = option_map record_of doubt

-- a unit that is up works, unless its disk failed
abbrev pub health_by : Bool → Health
health_by true = Failed
health_by false = Works

-- the part of a seat that is empty
abbrev pub no_part : PartData
no_part =
    record {
      chart = [];
      name = [];
      unit = record { 0 = 0 };
      units = 0;
      components = [];
      transitions = [];
      states = [];
      vars = [];
      events = [];
      acts = [];
      peers = [];
    }

-- THE UNIT of a seat, with its fuse and its doubt
abbrev pub state_of : Seat → Option Kept → Option Doubt → SlotState
state_of (Up node) fuse doubt =
    record {
      part = node.part;
      clock = node.journal.disk.clock;
      health = health_by node.journal.failed;
      past = node.past;
      came = node.came;
      early = node.early;
      fuse = fuse_of fuse;
      doubt = doubt_of doubt;
    }
state_of (Down remains) fuse doubt =
    record {
      part = remains.part;
      clock = remains.disk.clock;
      health = IsDown;
      past = remains.past.past;
      came = [];
      early = [];
      fuse = fuse_of fuse;
      doubt = doubt_of doubt;
    }
state_of Away fuse doubt =
    record { part = no_part; clock = 0; health = IsDown; past = first_history 0; came = []; early = []; fuse = fuse_of fuse; doubt = doubt_of doubt }

-- an image holds this history, or it with the record in doubt
abbrev pub MayHold : PartData → History → Option Doubt → List ℕ → Type 0
MayHold part past None file = Holds part past file
MayHold part past (Some d) file = Holds part past file ⊎ Holds part (stood (record_of d) past) file

-- A DISK of a unit: it is to fail where the fuse says, and a crash leaves this history, or it with the record in doubt
pub record IsKept (part : PartData) (past : History) (disk : Held) (fuse : Option Kept) (doubt : Option Doubt) : Type 0 where
  pub fused : IsFused (told_of disk) (fuse_of fuse)
  pub leaves : (file : List ℕ) → (told_of disk).may_leave file → MayHold part past doubt file

-- nothing is in doubt at a unit that works, and a seat is empty only while a call works on it
abbrev pub IsSlot : Seat → Option Kept → Option Doubt → Type 0
IsSlot (Up node) fuse doubt = IsKept node.part node.past node.journal.disk fuse doubt × (node.journal.failed ≡ false → doubt ≡ None)
IsSlot (Down remains) fuse doubt = IsKept remains.part remains.past.past remains.disk fuse doubt × (taken remains.past.past < 2 ^ 32)
IsSlot Away fuse doubt = ⊥
