-- Of the laws. The journal of a server in a play never gets full.
use Rattle.std.specs.Prelude.{ℕ, ◌+◌, ◌<◌, ◌≤◌, List, length}
use Rattle.std.specs.List.{sum_by, AllByRecursion}
use Rattle.wf_model.specs.Limits.{max_name, max_lines, max_sent, max_journal}
use Rattle.wf_model.specs.declared.chart.Chart.{Chart}
use Rattle.wf_codec.specs.Spelling.{spelling_of}
use Rattle.wf_machine.specs.Machine.{CountingMachine, Message}
use Rattle.wf_machine.specs.Postings.{IsPosted}
use Rattle.wf_histories.specs.Histories.{Admission, History, taken}
use Rattle.wf_histories.specs.Laws.{AreLean}
use Rattle.wf_bridge.specs.Bridging.{CountsOf}
use Rattle.wf_worlds.specs.Worlds.{letter}
use Rattle.wf_worlds.specs.Ends.{IsShort, longest_turn, end_of_history}
use Rattle.wf_parts.specs.declared.data.PartData.{PartData}

-- behind a history its journal has room for the longest record: a Turn's, with its frame and the next gate
abbrev pub IsNotFull : PartData → History → Type 0
IsNotFull part h = end_of_history part h + longest_turn + 6 ≤ max_journal

-- With no more records than lines, and no more bytes sent than may be, every record still fits.
abbrev pub JournalNeverFull : Type 0
JournalNeverFull =
    (chart : Chart) (m : CountingMachine) (h : ℕ → History) (u : ℕ) (part : PartData) → AreLean chart h → CountsOf m (length chart.units) h → IsPosted m → u < length chart.units →
    length (h u).admissions + taken (h u) ≤ max_lines → AllByRecursion (λ (a : Admission). IsShort a.outer) (h u).admissions →
    length part.chart ≤ max_name → length part.name ≤ max_name →
    sum_by (λ (x : Message). length (spelling_of (letter chart h x.sender x.receiver x.step))) m.messages ≤ max_sent →
    IsNotFull part (h u)
