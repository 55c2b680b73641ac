-- Of other calls. All servers of a chart with their messages, and what a line does to them.
use Rattle.std.specs.Prelude.{◌≡◌, ◌<◌, ◌≤◌, ◌+◌, ◌*◌, ◌==◌, ◌++◌, ℕ, true, List, [], ◌∷◌, length, map, slice_get, slice_set, unwrap_or, if◌then◌else◌, Option, Some, None}
use Rattle.std.specs.List.{AllByRecursion}
use Rattle.wf_model.specs.Limits.{max_lines, max_sent}
use Rattle.wf_model.specs.declared.ids.UnitId.{UnitId}
use Rattle.wf_model.specs.declared.chart.Chart.{Chart}
use Rattle.wf_model.specs.declared.outer.Outer.{Outer}
use Rattle.wf_model.specs.Accepted.{IsAccepted}
use Rattle.wf_parts.specs.Parts.{part_of}
use Rattle.wf_machine.specs.declared.line.Line.{Line}
use Rattle.wf_machine.specs.declared.reply.Reply.{Reply}
use Rattle.wf_machine.specs.Server.{Health, Works, Failed, IsDown}
use Rattle.wf_machine.specs.Machine.{CountingMachine, Message}
use Rattle.wf_machine.specs.Runs.{MayAct, recoveries}
use Rattle.wf_machine.specs.Account.{IsAccount, MachineGrows}
use Rattle.wf_machine.specs.Postings.{IsPosted, records}
use Rattle.wf_histories.specs.Histories.{Admission, History}
use Rattle.wf_worlds.specs.Worlds.{Record, Admits, Turns, MayStand, first_history}
use Rattle.wf_worlds.specs.Ends.{IsShort}
use Rattle.wf_world.specs.declared.mail.Sent.{Sent}
use Rattle.wf_world.specs.Mail.{bytes_in, message_of, IsLetter, AreLetters}
use Rattle.wf_world.specs.Sent.{is_over}
use Rattle.wf_disk.specs.Memory.{Held, image_of}
use Rattle.wf_server.specs.Images.{Holds}
use Rattle.wf_slot.specs.Units.{UnitState, new_unit}
use Rattle.wf_slot.specs.Slots.{SlotState, unit_of, server}
use Rattle.wf_slot.specs.Answers.{Ends}
use Rattle.wf_world.specs.Machines.{machine_of}
use Rattle.wf_world.specs.Sounds.{hist_of, IsSound}

-- the servers of a chart by unit, and every message that was ever sent
pub record FleetState : Type 0 where
  pub chart : Chart
  pub slots : List SlotState
  pub messages : List Sent

abbrev pub units_of : List SlotState → List UnitState
units_of slots = map unit_of slots

-- THE MACHINE that counts for them
abbrev pub machine_at : FleetState → CountingMachine
machine_at f = machine_of (units_of f.slots) f.messages

-- a record that fits a journal's record
abbrev pub IsShortRecord : Record → Type 0
IsShortRecord (Admits a) = IsShort a.outer
IsShortRecord (Turns updates) = Unit {0}

-- SLOT u of a chart whose units have these histories: it has the unit's part; what is in doubt there may stand; and all that it let in is short
pub record IsSlotOf (chart : Chart) (h : ℕ → History) (u : ℕ) (s : SlotState) : Type 0 where
  pub part : s.part ≡ part_of chart u
  pub doubt : (r : Record) → s.doubt ≡ Some r → MayStand chart h u r × IsShortRecord r
  pub short : AllByRecursion (λ (a : Admission). IsShort a.outer) s.past.admissions

-- WHAT HOLDS OF A FLEET between two lines
pub record IsFleet (f : FleetState) : Type 0 where
  pub accepted : IsAccepted f.chart
  pub count : length f.slots ≡ length f.chart.units
  pub each : (u : ℕ) (s : SlotState) → slice_get f.slots u ≡ Some s → IsSlotOf f.chart (hist_of (units_of f.slots)) u s
  pub sound : IsSound f.chart (units_of f.slots)
  pub letters : AreLetters f.chart (machine_at f) f.messages
  pub account : IsAccount (machine_at f)
  pub posted : IsPosted (machine_at f)
  pub few : bytes_in f.messages ≤ max_sent

-- WEAR. A disk that is to be started again has that stroke before it.
abbrev pub ahead : Health → ℕ
ahead Works = 0
ahead Failed = 4
ahead IsDown = 4

-- a slot after so many lines at most that did something to it
pub record IsWorn (n : ℕ) (s : SlotState) : Type 0 where
  pub clock : s.clock + ahead s.health ≤ 7 + 8 * n
  pub records : records (server s) ≤ n

abbrev pub AreWorn : (ℕ → ℕ) → List SlotState → Type 0
AreWorn n slots = (u : ℕ) (s : SlotState) → slice_get slots u ≡ Some s → IsWorn (n u) s

-- one line more at unit u
abbrev pub one_more : ℕ → (ℕ → ℕ) → ℕ → ℕ
one_more u n v = if v == u then n v + 1 else n v

-- a line that does something to unit u alone, and one that does nothing to a disk
abbrev pub WearsOne : ℕ → FleetState → FleetState → Type 0
WearsOne u f g = (n : ℕ → ℕ) → AreWorn n f.slots → AreWorn (one_more u n) g.slots

abbrev pub WearsNone : FleetState → FleetState → Type 0
WearsNone f g = (n : ℕ → ℕ) → AreWorn n f.slots → AreWorn n g.slots

-- unit u has room for one line more
pub record HasRoom (f : FleetState) (u : ℕ) : Type 0 where
  pub n : ℕ
  pub few : n < max_lines
  pub worn : (s : SlotState) → slice_get f.slots u ≡ Some s → IsWorn n s

-- and all have
pub record HaveRoom (f : FleetState) : Type 0 where
  pub n : ℕ
  pub few : n < max_lines
  pub worn : AreWorn (λ u. n) f.slots

-- a line that does something to each unit
abbrev pub WearsAll : FleetState → FleetState → Type 0
WearsAll f g = (n : ℕ) → AreWorn (λ u. n) f.slots → AreWorn (λ u. n + 1) g.slots

-- A LINE led from a fleet to another one
pub record Leads (f : FleetState) (x : Line) (r : Reply) (g : FleetState) : Type 0 where
  pub chart : g.chart ≡ f.chart
  pub machine : MayAct f.chart (machine_at f) x r (machine_at g)
  pub fleet : IsFleet g

-- some of a line did: this is the machine then
pub record Comes (f : FleetState) (after : CountingMachine) (g : FleetState) : Type 0 where
  pub chart : g.chart ≡ f.chart
  pub machine : machine_at g ≡ after
  pub fleet : IsFleet g

-- THE START

-- a slot to which nothing was done
pub record IsNew (chart : Chart) (u : ℕ) (s : SlotState) : Type 0 where
  pub part : s.part ≡ part_of chart u
  pub unit : unit_of s ≡ new_unit u
  pub certain : s.doubt ≡ None
  pub clock : s.clock ≤ 7

abbrev pub AreNew : Chart → List SlotState → Type 0
AreNew chart slots = (u : ℕ) (s : SlotState) → slice_get slots u ≡ Some s → IsNew chart u s

-- MESSAGES

-- slot u, and one to which nothing was done where there is none
abbrev pub slot_at : FleetState → ℕ → SlotState
slot_at f u =
    unwrap_or (slice_get f.slots u)
    (record { part = part_of f.chart u; clock = 0; health = Works; past = first_history u; came = []; early = []; fuse = None; doubt = None })

-- it is the update of this step from one unit to another
pub record IsPost (f : FleetState) (from to : UnitId) (step : ℕ) (x : Sent) : Type 0 where
  pub message : message_of x ≡ record { sender = from.0; receiver = to.0; step = step }
  pub letter : IsLetter f.chart (machine_at f) x

-- it was sent, and all messages have few enough bytes
pub record Posts (f : FleetState) (from to : UnitId) (step : ℕ) (g : FleetState) : Type 0 where
  pub x : Sent
  pub post : IsPost f from to step x
  pub after : g ≡ record f { messages = f.messages ++ x ∷ [] }
  pub few : bytes_in (f.messages ++ x ∷ []) ≤ max_sent

-- with it they would have too many
pub record Overflows (f : FleetState) (from to : UnitId) (step : ℕ) : Type 0 where
  pub x : Sent
  pub post : IsPost f from to step x
  pub over : max_sent < bytes_in f.messages + length x.bytes

-- a machine that came of another one has its messages, and maybe later ones
pub record Follows (m after : CountingMachine) : Type 0 where
  pub grows : MachineGrows m after
  pub more : List Message
  pub messages : after.messages ≡ m.messages ++ more

-- it, and whatever comes of it, has too many bytes
abbrev pub IsPast : Chart → CountingMachine → Type 0
IsPast chart m = (after : CountingMachine) → Follows m after → is_over chart after ≡ true

-- THE END

-- one unit came to its end
pub record EndsOne (f : FleetState) (u : ℕ) (g : FleetState) : Type 0 where
  pub t : SlotState
  pub ends : Ends (slot_at f u) t
  pub after : g ≡ record f { slots = slice_set f.slots u t }
  pub fleet : IsFleet g
  pub worn : WearsNone f g

-- slots came to their ends, each by itself
abbrev pub AreEnding : List SlotState → List SlotState → Type 0
AreEnding [] [] = Unit {0}
AreEnding [] (y ∷ ys) = ⊥
AreEnding (x ∷ xs) [] = ⊥
AreEnding (x ∷ xs) (y ∷ ys) = Ends x y × AreEnding xs ys

-- a unit's counts, if there are any
abbrev pub counted_by : UnitId → Option (ℕ × ℕ) → List (UnitId × ℕ × ℕ)
counted_by u None = []
counted_by u (Some counts) = (u, counts.0, counts.1) ∷ []

-- all slots work
abbrev pub DoWork : List SlotState → Type 0
DoWork slots = (u : ℕ) (s : SlotState) → slice_get slots u ≡ Some s → s.health ≡ Works

-- the first n did, and those that were lost have these counts
pub record IsEnding (f g : FleetState) (n : ℕ) (recovered : List (UnitId × ℕ × ℕ)) : Type 0 where
  pub before : List SlotState
  pub after : List SlotState
  pub others : List SlotState
  pub old_slots : f.slots ≡ before ++ others
  pub new_slots : g.slots ≡ after ++ others
  pub size : length before ≡ n
  pub ends : AreEnding before after
  pub counts : recovered ≡ recoveries 0 (map server before) (map server after)
  pub chart : g.chart ≡ f.chart
  pub messages : g.messages ≡ f.messages
  pub fleet : IsFleet g
  pub worn : WearsNone f g

-- the disk of each of these slots holds its history
abbrev pub HaveDisks : List SlotState → List Held → Type 0
HaveDisks [] [] = Unit {0}
HaveDisks [] (d ∷ ds) = ⊥
HaveDisks (s ∷ ss) [] = ⊥
HaveDisks (s ∷ ss) (d ∷ ds) = Holds s.part s.past (image_of d) × HaveDisks ss ds
