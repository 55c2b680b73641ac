-- Of the laws. A machine's servers are those of a world with histories and updates.
use Rattle.std.specs.Prelude.{ℕ, ◌≡◌, ◌<◌, min, Bool, true, List, length, map, Option, Some, None, IsSome}
use Rattle.std.specs.List.{list_all}
use Rattle.wf_model.specs.Limits.{max_sealed}
use Rattle.wf_model.specs.declared.chart.Chart.{Chart}
use Rattle.wf_model.specs.declared.update.Update.{Update}
use Rattle.wf_model.specs.Accepted.{IsAccepted}
use Rattle.wf_machine.specs.declared.line.Line.{Line}
use Rattle.wf_machine.specs.Server.{Server, Record as Counted, Admits as CountedAdmits, Turns as CountedTurns}
use Rattle.wf_machine.specs.Machine.{CountingMachine, Message as Count, server, first_machine}
use Rattle.wf_machine.specs.Fits.{is_line}
use Rattle.wf_machine.specs.Lines.{act}
use Rattle.wf_machine.specs.Runs.{after_lines}
use Rattle.wf_machine.specs.Account.{IsAccount}
use Rattle.wf_histories.specs.Histories.{History, seals}
use Rattle.wf_worlds.specs.Growing.{GoesOn, unsealed}
use Rattle.wf_bridge.specs.Bridging.{in_history}
use Rattle.wf_worlds.specs.Worlds.{Message, Record, Admits, Turns, World, Sound, first_world}

abbrev pub SameRecord : History → Counted → Record → Type 0
SameRecord h (CountedAdmits a) (Admits b) = in_history a ≡ b
SameRecord h (CountedAdmits a) (Turns updates) = ⊥
SameRecord h (CountedTurns k) (Admits b) = ⊥
SameRecord h (CountedTurns k) (Turns updates) = k ≡ min max_sealed (unsealed h)

abbrev pub SameDoubt : History → Option Counted → Option Record → Type 0
SameDoubt h None None = Unit {0}
SameDoubt h None (Some r) = ⊥
SameDoubt h (Some c) None = ⊥
SameDoubt h (Some c) (Some r) = SameRecord h c r

-- a server of the machine, and one of the world
pub record IsUnitOf (s : Server) (h : History) (doubt : Option Record) (held : ℕ → ℕ → Option Update) : Type 0 where
  pub admissions : h.admissions ≡ map in_history s.admissions
  pub sealed : seals h ≡ s.sealed
  pub came : (v j : ℕ) → s.came v j ≡ true → IsSome (held v j)
  pub doubtful : SameDoubt h s.doubt doubt

abbrev pub counted : Message → Count
counted x = record { sender = x.sender; receiver = x.receiver; step = x.step }

pub record IsWorldOf (chart : Chart) (m : CountingMachine) (w : World) : Type 0 where
  pub units : length m.servers ≡ length chart.units
  pub each : (u : ℕ) → u < length chart.units → IsUnitOf (server m u) (w.hist u) (w.doubt u) (w.held u)
  pub messages : map counted w.messages ≡ m.messages
  pub account : IsAccount m
  pub sound : Sound chart w

-- each line of a script leads to such a world again, whose histories go on
abbrev pub LineHasWorld : Type 0
LineHasWorld =
    (chart : Chart) (m : CountingMachine) (w : World) (stands : Bool) (x : Line) → IsAccepted chart → is_line chart x ≡ true → IsWorldOf chart m w →
    (v : World) × IsWorldOf chart (act chart m stands x).after v × ((u : ℕ) → GoesOn (w.hist u) (v.hist u))

abbrev pub FirstHasWorld : Type 0
FirstHasWorld = (chart : Chart) → IsAccepted chart → IsWorldOf chart (first_machine chart) first_world

-- so every play has one: the machine's counts are those of histories that agree, are good, and whose letters were sent
abbrev pub PlayHasWorld : Type 0
PlayHasWorld =
    (chart : Chart) (bs : List Bool) (lines : List (ℕ × Line)) → IsAccepted chart → list_all (λ x. is_line chart x.1) lines ≡ true →
    (w : World) × IsWorldOf chart (after_lines chart (first_machine chart) bs lines) w
