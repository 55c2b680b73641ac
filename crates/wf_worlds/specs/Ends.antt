-- Of other calls. Where the journal of a history ends, and how long its records are.
use Rattle.std.specs.Prelude.{ℕ, ◌+◌, ◌≤◌, length}
use Rattle.std.specs.List.{sum_by}
use Rattle.wf_model.specs.declared.outer.Outer.{Outer}
use Rattle.wf_codec.specs.declared.record.JournalRecord.{JournalRecord}
use Rattle.wf_codec.specs.declared.record.JournalRecord.TheVariants.{Head, Admit, Turn}
use Rattle.wf_codec.specs.Records.{record_spelling}
use Rattle.wf_codec.specs.Spelling.{outer_spelling}
use Rattle.wf_parts.specs.declared.data.PartData.{PartData}
use Rattle.wf_histories.specs.Histories.{Admission, TurnDone, History}

-- the bytes of a record's frame: a gate, a length of four, and the record
abbrev pub frame_size : JournalRecord → ℕ
frame_size r = 5 + length (record_spelling r)

-- THE PLACE BEHIND THE RECORDS of a unit's history: a head, the admissions and the Turns
unfoldable pub end_of_history : PartData → History → ℕ
end_of_history part h =
    frame_size (Head 1 part.chart part.name) + sum_by (λ (a : Admission). frame_size (Admit a.request a.outer)) h.admissions
    + sum_by (λ (turn : TurnDone). frame_size (Turn turn.step turn.inputs turn.sealed)) h.turns

-- the outer is no longer than the longest one
abbrev pub IsShort : Outer → Type 0
IsShort outer = length (outer_spelling outer) ≤ 552

-- the longest record of a Turn: 8 bytes, and 87,488 for each of seven updates
abbrev pub longest_turn : ℕ
longest_turn = 612424
