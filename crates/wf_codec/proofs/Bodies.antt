-- What is spelled of a record is its body.
use Rattle.std.proofs.Common.{◌≡◌, ℕ, ◌≤◌, List, length, refl, sym, subst, arith}
use Rattle.wf_model.specs.Limits.{max_body}
use Rattle.wf_codec.specs.declared.record.JournalRecord.{JournalRecord}
use Rattle.wf_codec.specs.declared.record.JournalRecord.TheVariants.{Head, Admit, Turn}
use Rattle.wf_codec.specs.Records.{record_spelling, IsRecord}
use Rattle.wf_codec.specs.Bodies.{IsBodyOf}
use Rattle.wf_codec.proofs.Records.{record_again}
use Rattle.wf_codec.proofs.Lengths.{head_short, admit_short, turn_short}
use Rattle.wf_codec.proofs.Fits.{inputs_few}

short : (r : JournalRecord) → IsRecord r → length (record_spelling r) ≤ max_body
short (Head version chart unit) is = omega (arith, head_short version chart unit is)
short (Admit request outer) is = omega (arith, admit_short request outer is)
short (Turn step inputs sealed) is = omega (arith, turn_short step inputs sealed is, inputs_few inputs is.0.0 is.0.1)

some_byte : (r : JournalRecord) → 1 ≤ length (record_spelling r)
unfolding record_spelling
some_byte (Head version chart unit) = omega arith
some_byte (Admit request outer) = omega arith
some_byte (Turn step inputs sealed) = omega arith

pub body_of : (r : JournalRecord) (body : List ℕ) → IsRecord r → body ≡ record_spelling r → IsBodyOf r body
body_of r body is same =
    let F : List ℕ → Type 0 = λ bytes. IsBodyOf r bytes in
    subst F (sym same) (record { spelled = refl; read = record_again r is; some = some_byte r; most = short r is })
