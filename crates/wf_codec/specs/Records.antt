-- Of other calls. The records of a journal: their one spelling, and how they are read.
use Rattle.std.specs.Prelude.{ℕ, suc, ◌≡◌, ◌+◌, ◌^◌, ◌<◌, ◌≤◌, ◌==◌, ◌||◌, Bool, IsTrue, List, [], ◌∷◌, ◌++◌, length, Option, Some, None, Result, Ok, Err, if◌then◌else◌}
use Rattle.std.specs.List.{flat_map, list_all, AllByRecursion}
use Rattle.std.specs.Int.{w16, w32}
use Rattle.wf_model.specs.Limits.{max_name}
use Rattle.wf_model.specs.Names.{is_word_char}
use Rattle.wf_codec.specs.declared.fault.Misfit.{Misfit}
use Rattle.wf_codec.specs.declared.fault.Misfit.TheVariants.{Short, Bad}
use Rattle.wf_codec.specs.declared.record.JournalRecord.{JournalRecord}
use Rattle.wf_codec.specs.declared.record.JournalRecord.TheVariants.{Head, Admit, Turn}
use Rattle.wf_codec.specs.Tags.{head_tag, admit_tag, turn_tag}
use Rattle.wf_codec.specs.Spelling.{two, four, eight, outer_spelling, spelling_of}
use Rattle.wf_codec.specs.Ranges.{chart_numbers, any_numbers, Ascend, IsOuter, IsHeldOuter, IsInRange, IsHeld}
use Rattle.wf_model.specs.Steps.{◌>>=◌}
use Rattle.wf_codec.specs.Reading.{byte_in, number_in, eight_at, items_at, bytes_that}
use Rattle.wf_codec.specs.Fields.{outer_at, update_at}

-- a letter, a digit, `_` or `-`
abbrev pub is_head_char : ℕ → Bool
is_head_char c = is_word_char c || (c == 45)

-- a length and the characters
abbrev pub named : List ℕ → List ℕ
named cs = length cs ∷ cs

-- a tag and the fields
unfoldable pub record_spelling : JournalRecord → List ℕ
record_spelling (Head version chart unit) = head_tag ∷ version ∷ named chart ++ named unit
record_spelling (Admit request outer) = admit_tag ∷ eight request ++ outer_spelling outer
record_spelling (Turn step inputs sealed) = turn_tag ∷ four step ++ (length inputs ∷ flat_map spelling_of inputs ++ two sealed)

-- 1 to 32 characters that a head may have
abbrev pub IsHeadName : List ℕ → Type 0
IsHeadName cs = (1 ≤ length cs) × (length cs ≤ max_name) × IsTrue (list_all is_head_char cs)

-- each field is in its range: a head has version 1, and a turn the updates of different units, in their order
abbrev pub IsRecordInRange : JournalRecord → Type 0
IsRecordInRange (Head version chart unit) = (version ≡ 1) × IsHeadName chart × IsHeadName unit
IsRecordInRange (Admit request outer) = IsOuter any_numbers outer
IsRecordInRange (Turn step inputs sealed) = AllByRecursion IsInRange inputs × Ascend (λ u. u.from.0) inputs × (sealed < 2 ^ 16)

-- what the types keep of each record that a program holds
abbrev pub IsHeldRecord : JournalRecord → Type 0
IsHeldRecord (Head version chart unit) = Unit {0}
IsHeldRecord (Admit request outer) = (request < 2 ^ 64) × IsHeldOuter outer
IsHeldRecord (Turn step inputs sealed) = (step < 2 ^ 32) × AllByRecursion IsHeld inputs

-- what has a spelling
abbrev pub IsRecord : JournalRecord → Type 0
IsRecord r = IsRecordInRange r × IsHeldRecord r

-- a name behind its length
unfoldable pub head_name_at : List ℕ → Result (List ℕ × List ℕ) Misfit
head_name_at bytes = do
  len ← byte_in 1 (max_name + 1) bytes
  bytes_that is_head_char len.0 len.1

-- a head behind its tag
unfoldable pub head_at : List ℕ → Result (JournalRecord × List ℕ) Misfit
head_at bytes = do
  version ← byte_in 1 2 bytes
  chart ← head_name_at version.1
  unit ← head_name_at chart.1
  Ok (Head version.0 chart.0 unit.0, unit.1)

-- an admission behind its tag
unfoldable pub admit_at : List ℕ → Result (JournalRecord × List ℕ) Misfit
admit_at bytes = do
  request ← eight_at bytes
  outer ← outer_at any_numbers None request.1
  Ok (Admit request.0 outer.0, outer.1)

-- a turn behind its tag
unfoldable pub turn_at : List ℕ → Result (JournalRecord × List ℕ) Misfit
turn_at bytes = do
  step ← number_in w32 0 (2 ^ 32) bytes
  count ← byte_in 0 256 step.1
  inputs ← items_at (update_at chart_numbers) count.0 None count.1
  sealed ← number_in w16 0 (2 ^ 16) inputs.1
  Ok (Turn step.0 inputs.0 sealed.0, sealed.1)

-- a record at the front of the bytes, by its tag
unfoldable pub record_at : List ℕ → Result (JournalRecord × List ℕ) Misfit
record_at [] = Err Short
record_at (tag ∷ rest) = if tag == head_tag then head_at rest else (if tag == admit_tag then admit_at rest else (if tag == turn_tag then turn_at rest else Err (Bad (suc (length rest)))))

-- the record that is the whole body
abbrev pub whole : Result (JournalRecord × List ℕ) Misfit → Option JournalRecord
whole (Ok (r, [])) = Some r
whole (Ok (r, b ∷ rest)) = None
whole (Err misfit) = None

-- the record that has this body
unfoldable pub record_of : List ℕ → Option JournalRecord
record_of body = whole (record_at body)
