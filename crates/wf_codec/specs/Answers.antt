-- Of other calls. What a call answers, unless memory runs out.
use Rattle.std.specs.Prelude.{◌≡◌, ℕ, Result, Ok, Err, Option, Some, None}
use Rattle.wf_model.specs.declared.update.Update.{Update}
use Rattle.wf_codec.specs.declared.fault.FieldFault.{FieldFault}
use Rattle.wf_codec.specs.declared.fault.FieldFault.TheVariants as field
use Rattle.wf_codec.specs.declared.fault.CodecFault.{CodecFault}
use Rattle.wf_codec.specs.declared.fault.CodecFault.TheVariants as codec
use Rattle.wf_codec.specs.declared.fault.RecordFault.{RecordFault}
use Rattle.wf_codec.specs.declared.fault.RecordFault.TheVariants as records
use Rattle.wf_codec.specs.declared.record.JournalRecord.{JournalRecord}

-- the update with its length, or its fault
abbrev pub Answers : Result (Update × ℕ) CodecFault → Result (Update × ℕ) CodecFault → Type 0
Answers (Ok x) wanted = wanted ≡ Ok x
Answers (Err codec.NoMemory) wanted = Unit {0}
Answers (Err codec.Short) wanted = wanted ≡ Err codec.Short
Answers (Err codec.BadTag) wanted = wanted ≡ Err codec.BadTag
Answers (Err (codec.BadField at)) wanted = wanted ≡ Err (codec.BadField at)

-- the record, or that there is none
abbrev pub AnswersRecord : Result JournalRecord RecordFault → Option JournalRecord → Type 0
AnswersRecord (Ok r) wanted = wanted ≡ Some r
AnswersRecord (Err records.NoMemory) wanted = Unit {0}
AnswersRecord (Err records.NotRecord) wanted = wanted ≡ None

-- the fault of a field in a body
abbrev pub record_fault : FieldFault → RecordFault
record_fault field.NoMemory = records.NoMemory
record_fault (field.Misfit misfit) = records.NotRecord
