-- Of other calls. The body of a record.
use Rattle.std.specs.Prelude.{ℕ, ◌≡◌, ◌≤◌, List, length, Some}
use Rattle.wf_model.specs.Limits.{max_body}
use Rattle.wf_codec.specs.declared.record.JournalRecord.{JournalRecord}
use Rattle.wf_codec.specs.Records.{record_spelling, record_of}

-- these bytes are the record's one spelling, they are read as that record, and a journal takes them as a body
pub record IsBodyOf (r : JournalRecord) (body : List ℕ) : Type 0 where
  pub spelled : body ≡ record_spelling r
  pub read : record_of body ≡ Some r
  pub some : 1 ≤ length body
  pub most : length body ≤ max_body
