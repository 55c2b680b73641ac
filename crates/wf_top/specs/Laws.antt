-- Of the laws. Which answers depend on how doubts turn out.
use Rattle.std.specs.Prelude.{◌≡◌, ℕ, Bool, true, false, List}
use Rattle.std.specs.List.{list_any}
use Rattle.wf_model.specs.declared.chart.Chart.{Chart}
use Rattle.wf_machine.specs.declared.line.Line.{Line}
use Rattle.wf_machine.specs.declared.line.Line.TheVariants as line
use Rattle.wf_machine.specs.Machine.{CountingMachine}
use Rattle.wf_machine.specs.Runs.{Outcomes, closed, ending}
use Rattle.wf_top.specs.declared.command.Command.{Command}
use Rattle.wf_top.specs.declared.command.Command.TheVariants.{Play}
use Rattle.wf_top.specs.declared.command.Telling.{Telling}
use Rattle.wf_top.specs.Answers.{answer_of, run_of_play}

-- the command runs a play
abbrev pub plays : Command → Bool
plays (Play telling) = true
plays _ = false

-- a command that runs no play has one answer to an input, whatever outcomes are named
abbrev pub HaveOneAnswer : Type 0
HaveOneAnswer =
    (command : Command) (input : List ℕ) (o p : Outcomes) → plays command ≡ false → answer_of command o input ≡ answer_of command p input

-- the line arms a disk
abbrev pub is_arm : Line → Bool
is_arm (line.Arm unit stroke what) = true
is_arm _ = false

-- and so has a play whose lines arm no disk: it comes to no doubt
abbrev pub UnarmedPlaysHaveOneAnswer : Type 0
UnarmedPlaysHaveOneAnswer =
    (telling : Telling) (chart : Chart) (lines : List (ℕ × Line)) (o p : Outcomes) → list_any (λ x. is_arm x.1) lines ≡ false →
    run_of_play telling chart o lines ≡ run_of_play telling chart p lines

-- The counts behind a play's end show how the doubts came out that were left: where these are the same, so is the machine after it.
abbrev pub EndsShowOutcomes : Type 0
EndsShowOutcomes = (chart : Chart) (m : CountingMachine) (bs cs : List Bool) → (ending chart m bs).recovered ≡ (ending chart m cs).recovered → closed m bs ≡ closed m cs
