-- Of the laws. How long records are.
use Rattle.std.specs.Prelude.{ℕ, ◌+◌, ◌*◌, ◌≤◌, List, length}
use Rattle.wf_model.specs.declared.outer.Outer.{Outer}
use Rattle.wf_model.specs.declared.update.Update.{Update}
use Rattle.wf_codec.specs.declared.record.JournalRecord.TheVariants.{Head, Admit, Turn}
use Rattle.wf_codec.specs.Records.{record_spelling, IsRecord}

-- a head has at most 68 bytes
abbrev pub HeadIsShort : Type 0
HeadIsShort = (version : ℕ) (chart unit : List ℕ) → IsRecord (Head version chart unit) → length (record_spelling (Head version chart unit)) ≤ 68

-- an admission has at most 561 bytes
abbrev pub AdmitIsShort : Type 0
AdmitIsShort = (request : ℕ) (outer : Outer) → IsRecord (Admit request outer) → length (record_spelling (Admit request outer)) ≤ 561

-- a turn has at most 8 bytes, and 87,488 for each update that it took in
abbrev pub TurnIsShort : Type 0
TurnIsShort =
    (step : ℕ) (inputs : List Update) (sealed : ℕ) → IsRecord (Turn step inputs sealed) →
    length (record_spelling (Turn step inputs sealed)) ≤ 8 + 87488 * length inputs
