-- Inner. How a write of a unit that is up ends.
use Rattle.std.specs.Prelude.{◌≡◌, ℕ, suc, ◌+◌, ◌^◌, ◌<◌, ◌≤◌, true, false, nat_lt, List, [], if◌then◌else◌, Option, Some, None}
use Rattle.wf_model.specs.declared.outer.Outer.{Outer}
use Rattle.wf_model.specs.declared.update.Update.{Update}
use Rattle.wf_disk.specs.declared.arm.Arm.{Arm}
use Rattle.wf_disk.specs.declared.arm.Arm.TheVariants.{Fail, Crash}
use Rattle.wf_disk.specs.Memory.{Held, told_of}
use Rattle.wf_machine.specs.declared.reply.Reply.{Reply}
use Rattle.wf_machine.specs.declared.reply.TurnReply.{TurnReply}
use Rattle.wf_machine.specs.Strokes.{SetOff, strokes}
use Rattle.wf_machine.specs.Server.{Failed, doubted}
use Rattle.wf_machine.specs.Lines.{bar_at, asked, admit_by, turn_by}
use Rattle.wf_histories.specs.Histories.{taken}
use Rattle.wf_histories.specs.Agreement.{peers}
use Rattle.wf_worlds.specs.Admitting.{lets_in}
use Rattle.wf_worlds.specs.Worlds.{Record, Admits, Turns, stood, gather}
use Rattle.wf_server.specs.Servers.{Server, inputs_of}
use Rattle.wf_server.specs.Images.{Holds, HoldsEither}
use Rattle.wf_slot.specs.declared.fuse.Fuse.{Fuse as Kept}
use Rattle.wf_slot.specs.declared.slot.Remains.{Remains}
use Rattle.wf_slot.specs.declared.slot.Seat.{Seat}
use Rattle.wf_slot.specs.declared.slot.Seat.TheVariants.{Up, Down}
use Rattle.wf_slot.specs.declared.slot.writing.AdmitEnd.{AdmitEnd}
use Rattle.wf_slot.specs.declared.slot.writing.AdmitEnd.TheVariants as admit
use Rattle.wf_slot.specs.declared.slot.stepping.TurnEnd.{TurnEnd}
use Rattle.wf_slot.specs.declared.slot.stepping.TurnEnd.TheVariants as turn
use Rattle.wf_slot.specs.Fuses.{fuse_of, is_crash, IsUnarmed}
use Rattle.wf_slot.specs.Slots.{SlotState, server, absent, held, fallen}
use Rattle.wf_slot.specs.Answers.{Goes, IsLetIn, AdmitWrites, TurnWrites}
use Rattle.wf_slot.specs.Seats.{state_of, IsKept}

-- a unit that is up, with nothing in doubt
abbrev pub up : Server Held → Option Kept → SlotState
up node fuse = state_of (Up node) fuse None

-- the arm went off at stroke n of a write of this record, and is used up
abbrev pub struck_at : SlotState → ℕ → Arm → Record → ℕ → SlotState
struck_at slot n Fail r clock = record slot { clock = clock; health = Failed; fuse = None; doubt = doubted n r }
struck_at slot n (Crash outcome) r clock = record (fallen slot) { clock = clock; fuse = None; doubt = doubted n r }

-- one stroke of a write of this record set off the arm. Before the third one it can't stand.
pub record BrokeOff (node : Server Held) (fuse : Option Kept) (r : Record) (new : Server Held) (hit : Kept) : Type 0 where
  pub met : strokes 4 (fuse_of fuse) ≡ SetOff hit.left hit.what
  pub rest : new ≡ record node { journal = new.journal; ready = new.ready }
  pub failed : new.journal.failed ≡ true
  pub clock : new.journal.disk.clock ≤ node.journal.disk.clock + 4
  pub either : (file : List ℕ) → (told_of new.journal.disk).may_leave file → HoldsEither node.part node.past (stood r node.past) file
  pub fewer : hit.left < 3 → (file : List ℕ) → (told_of new.journal.disk).may_leave file → Holds node.part node.past file
  pub unarmed : is_crash hit.what ≡ false → IsUnarmed (told_of new.journal.disk)

-- THE ENDS of an admission

pub record AdmitAnswered (node : Server Held) (fuse : Option Kept) (request : ℕ) (outer : Outer) (new : Server Held) (rest : Option Kept) (r : Reply) : Type 0 where
  pub answer : admit_by (bar_at (up node fuse).health) (asked request (server (up node fuse)).admissions) (lets_in node.part node.past outer) (server (up node fuse)) (record { request = request; outer = outer }) ≡ (r, server (up new rest))
  pub writes : AdmitWrites (up node fuse) (record { request = request; outer = outer }) (up new rest)
  pub goes : Goes 4 (up node fuse) (up new rest)
  pub kept : IsKept new.part new.past new.journal.disk rest None

abbrev pub AdmitEnds : Server Held → Option Kept → ℕ → Outer → Server Held → Option Kept → AdmitEnd → Type 0
AdmitEnds node fuse request outer new rest (admit.Answered r) = AdmitAnswered node fuse request outer new rest r
AdmitEnds node fuse request outer new rest (admit.Broke hit) =
    IsLetIn (up node fuse) (record { request = request; outer = outer }) × BrokeOff node fuse (Admits (record { request = request; outer = outer })) new hit × (rest ≡ None)

-- THE ENDS of a turn

pub record TurnAnswered (node : Server Held) (fuse : Option Kept) (new : Server Held) (rest : Option Kept) (r : TurnReply) : Type 0 where
  pub answer : turn_by (bar_at (up node fuse).health) (absent (up node fuse)) (server (up node fuse)) ≡ (r, server (up new rest))
  pub writes : TurnWrites (up node fuse) (up new rest)
  pub goes : Goes 4 (up node fuse) (up new rest)
  pub kept : IsKept new.part new.past new.journal.disk rest None

-- an update of each peer came, of which these are the updates in order
pub record AreAllOf (slot : SlotState) (updates : List Update) : Type 0 where
  pub gathered : gather (λ v. held slot v (suc (taken slot.past))) (peers slot.part.units slot.part.unit.0) ≡ Some updates
  pub none_absent : absent slot ≡ []

abbrev pub TurnEnds : Server Held → Option Kept → Server Held → Option Kept → TurnEnd → Type 0
TurnEnds node fuse new rest (turn.Answered r) = TurnAnswered node fuse new rest r
TurnEnds node fuse new rest (turn.Broke hit) =
    AreAllOf (up node fuse) (inputs_of node.came) × BrokeOff node fuse (Turns (inputs_of node.came)) new hit × (rest ≡ None) × (fuse ≡ Some hit)

-- memory ran out in a call of a server: its history stays, and its disk has no arm
pub record IsSpared (node new : Server Held) : Type 0 where
  pub part : new.part ≡ node.part
  pub past : new.past ≡ node.past
  pub kept : IsKept new.part new.past new.journal.disk None None

-- WHAT IS LEFT of a server whose disk stopped, or crashed

pub record IsLeftOf (node : Server Held) (remains : Remains) : Type 0 where
  pub part : remains.part ≡ node.part
  pub past : remains.past.past ≡ node.past
  pub clock : remains.disk.clock ≡ node.journal.disk.clock
  pub leaves : (file : List ℕ) → (told_of remains.disk).may_leave file → (told_of node.journal.disk).may_leave file

-- where a unit sits after its arm went off: it is up still, or its disk has taken its outcome and has no arm
abbrev pub BreaksTo : Server Held → Arm → Seat → Type 0
BreaksTo node Fail seat = seat ≡ Up node
BreaksTo node (Crash outcome) seat = (remains : Remains) × (seat ≡ Down remains) × IsLeftOf node remains × IsUnarmed (told_of remains.disk) × (taken node.past < 2 ^ 32)
