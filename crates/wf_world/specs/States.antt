-- Of other calls. What a world is to who runs a script on it.
use Rattle.std.proofs.Common.{sym, subst}
use Rattle.std.specs.Prelude.{◌≡◌, ◌<◌, ◌≤◌, ℕ, ◌+◌, Bool, true, false, List, [], ◌∷◌, ⊤}
use Rattle.wf_model.specs.Limits.{max_lines}
use Rattle.wf_model.specs.declared.chart.Chart.{Chart}
use Rattle.wf_machine.specs.declared.ending.Ending.{Ending}
use Rattle.wf_machine.specs.declared.line.Line.{Line}
use Rattle.wf_machine.specs.declared.reply.Reply.{Reply}
use Rattle.wf_machine.specs.Machine.{CountingMachine, first_machine}
use Rattle.wf_machine.specs.Lines.{act}
use Rattle.wf_machine.specs.Runs.{MayAct, MayEnd}
use Rattle.wf_machine.specs.Fits.{is_line}
use Rattle.wf_world.specs.declared.fault.ActFault.{ActFault}
use Rattle.wf_world.specs.declared.fault.ActFault.TheVariants as faults
use Rattle.wf_slot.specs.Slots.{SlotState}
use Rattle.wf_world.specs.declared.mail.Sent.{Sent}
use Rattle.wf_world.specs.Sent.{is_over}
use Rattle.wf_world.specs.Machines.{machine_of}
use Rattle.wf_world.specs.Fleets.{FleetState, units_of, IsFleet, AreWorn}

-- its chart, the machine that counts for it, how many lines it has acted, and whether a fault left it inside a call
pub record WorldState : Type 0 where
  pub chart : Chart
  pub machine : CountingMachine
  pub acted : ℕ
  pub lost : Bool

-- what a world keeps: the slots of its units, every message that was ever sent, how many lines it has acted, and whether a fault left it
-- inside a call
pub record Kept : Type 0 where
  pub chart : Chart
  pub slots : List SlotState
  pub messages : List Sent
  pub acted : ℕ
  pub lost : Bool

-- and what it is to who runs it
abbrev pub state_of : Kept → WorldState
state_of kept = record { chart = kept.chart; machine = machine_of (units_of kept.slots) kept.messages; acted = kept.acted; lost = kept.lost }

-- all holds of its servers, after so many lines
pub record Stands (f : FleetState) (acted : ℕ) : Type 0 where
  pub fleet : IsFleet f
  pub few : acted ≤ max_lines
  pub worn : AreWorn (λ u. acted) f.slots

-- before any line
abbrev pub first_state : Chart → WorldState
first_state chart = record { chart = chart; machine = first_machine chart; acted = 0; lost = false }

-- each of these lines may be acted in its turn, where so many were acted before: they aren't too many, and each is a line of
-- the chart
abbrev pub FitFrom : Chart → ℕ → List Line → Type 0
FitFrom chart acted [] = ⊤
FitFrom chart acted (x ∷ xs) = (acted < max_lines) × (is_line chart x ≡ true) × FitFrom chart (acted + 1) xs

abbrev pub DoFit : WorldState → List Line → Type 0
DoFit s lines = FitFrom s.chart s.acted lines

-- A LINE leads to this reply and this state as the machine goes, with no fault, and the bytes of all messages are few enough then
pub record Acts (s : WorldState) (x : Line) (r : Reply) (t : WorldState) : Type 0 where
  pub chart : t.chart ≡ s.chart
  pub acted : t.acted ≡ s.acted + 1
  pub machine : MayAct s.chart s.machine x r t.machine
  pub few : is_over t.chart t.machine ≡ false
  pub whole : t.lost ≡ false

-- THE END: it is the machine's, with no fault
pub record Finishes (s : WorldState) (e : Ending) (t : WorldState) : Type 0 where
  pub chart : t.chart ≡ s.chart
  pub acted : t.acted ≡ s.acted
  pub machine : MayEnd s.chart s.machine e t.machine
  pub whole : t.lost ≡ false

-- the bytes of all messages would be too many; want of memory is free
abbrev pub MayRefuse : WorldState → Line → ActFault → Type 0
MayRefuse s x faults.SentLimit = (stands : Bool) × (is_over s.chart (act s.chart s.machine stands x).after ≡ true)
MayRefuse s x faults.NoMemory = ⊤

-- an end sends nothing
abbrev pub MayBreak : WorldState → ActFault → Type 0
MayBreak s faults.SentLimit = ⊥
MayBreak s faults.NoMemory = ⊤

-- LAWS OF LINES THAT FIT

pub first_does_fit : (s : WorldState) (x : Line) (xs : List Line) → DoFit s (x ∷ xs) → DoFit s (x ∷ [])
first_does_fit s x xs fit = (fit.0, fit.1, tt)

pub others_do_fit : (s : WorldState) (x : Line) (xs : List Line) (r : Reply) (t : WorldState) → DoFit s (x ∷ xs) → Acts s x r t → DoFit t xs
others_do_fit s x xs r t fit did =
    subst (λ (chart : Chart). FitFrom chart t.acted xs) (sym did.chart) (subst (λ (acted : ℕ). FitFrom s.chart acted xs) (sym did.acted) fit.2)
