-- Of the laws. Runs of a world, and plays of the counting machine.
use Rattle.std.specs.Prelude.{◌≡◌, ◌<◌, ◌++◌, ℕ, Bool, true, false, List, length, Some}
use Rattle.wf_machine.specs.declared.ending.Ending.{Ending}
use Rattle.wf_machine.specs.declared.line.Line.{Line}
use Rattle.wf_machine.specs.declared.reply.Reply.{Reply}
use Rattle.wf_machine.specs.Machine.{Message, message_at}
use Rattle.wf_machine.specs.Account.{IsAccount}
use Rattle.wf_machine.specs.Runs.{Outcomes, replies_to, after_lines, ending}
use Rattle.wf_drive.specs.Driven.{Runs, MayRefuse}
use Rattle.wf_world.specs.declared.fault.ActFault.TheVariants as faults
use Rattle.wf_world.specs.Sent.{bytes_of, passes}
use Rattle.wf_world.specs.States as states
use Rattle.wf_world.specs.States.{WorldState, Kept, state_of, Acts, Finishes, MayBreak}
use Rattle.wf_world.specs.Fleets.{DoWork}

-- these replies and this ending are those of the play from a state, where doubts turn out so; and the bytes of its messages are few enough
-- after each line
pub record IsPlay (s : WorldState) (lines : List (ℕ × Line)) (given : List (ℕ × Reply)) (e : Ending) (o : Outcomes) : Type 0 where
  pub replies : given ≡ replies_to s.chart s.machine o.at_lines lines
  pub ending : e ≡ ending s.chart (after_lines s.chart s.machine o.at_lines lines) o.at_end
  pub few : passes s.chart s.machine o.at_lines lines ≡ false

-- a run of a world by its own relations, with its end, is a play
abbrev pub RunsArePlays : Type 0
RunsArePlays =
    (s t u : WorldState) (lines : List (ℕ × Line)) (replies : List (ℕ × Reply)) (e : Ending) → Runs Acts s lines replies t → Finishes t e u →
    (o : Outcomes) × IsPlay s lines replies e o

-- and where it may be stopped by the bytes of its messages, those of a play pass the limit
abbrev pub RefusalsPass : Type 0
RefusalsPass =
    (s : WorldState) (lines : List (ℕ × Line)) → MayRefuse {R = Reply} Acts states.MayRefuse MayBreak s lines faults.SentLimit →
    (bs : List Bool) × (passes s.chart s.machine bs lines ≡ true)

-- after its end each unit of a world works, so it may be closed
abbrev pub EndedWorldsWork : Type 0
EndedWorldsWork = (s : WorldState) (e : Ending) (world : Kept) → Finishes s e (state_of world) → DoWork world.slots

-- what was sent before a line stays: only more messages are behind it, and the bytes of each are as before, if its sender is a unit
pub record Stay (s t : WorldState) : Type 0 where
  pub more : List Message
  pub messages : t.machine.messages ≡ s.machine.messages ++ more
  pub bytes : (n : ℕ) (x : Message) → message_at s.machine n ≡ Some x → x.sender < length s.machine.servers → bytes_of t.chart t.machine x ≡ bytes_of s.chart s.machine x

-- a line only adds messages, where the machine's account holds
abbrev pub MessagesStay : Type 0
MessagesStay = (s t : WorldState) (x : Line) (r : Reply) → Acts s x r t → IsAccount s.machine → Stay s t

-- and so does the end, which adds none
abbrev pub MessagesStayToEnd : Type 0
MessagesStayToEnd = (s t : WorldState) (e : Ending) → Finishes s e t → IsAccount s.machine → Stay s t × (t.machine.messages ≡ s.machine.messages)
