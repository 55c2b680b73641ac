-- Of the laws. When an answer is final, and when it comes.
use Rattle.std.specs.Prelude.{ℕ, ◌≡◌, ◌≢◌, ◌+◌, ◌<◌, ◌≤◌, List, ◌++◌, length, take, Ok, Err}
use Rattle.wf_model.specs.declared.update.Update.{Update}
use Rattle.wf_codec.specs.declared.fault.CodecFault.TheVariants as codec
use Rattle.wf_codec.specs.Fields.{decoded}

-- an answer other than that the bytes are too few stays, whatever bytes come behind
abbrev pub AnswerIsFinal : Type 0
AnswerIsFinal = (bytes more : List ℕ) → decoded bytes ≢ Err codec.Short → decoded (bytes ++ more) ≡ decoded bytes

-- a bad field begins at one of the bytes, and each front part up to it is too short and shows no fault
abbrev pub FaultIsFirst : Type 0
FaultIsFirst =
    (bytes : List ℕ) (at : ℕ) → decoded bytes ≡ Err (codec.BadField at) →
    (at < length bytes) × ((m : ℕ) → m ≤ at → decoded (take m bytes) ≡ Err codec.Short)

-- each front part of an update's bytes, but all of them, is too short
abbrev pub FrontIsShort : Type 0
FrontIsShort =
    (bytes : List ℕ) (update : Update) (n m : ℕ) → decoded bytes ≡ Ok (update, n) → m < n →
    decoded (take m bytes) ≡ Err codec.Short

-- a bad field is told as soon as its bytes are there, of which it has at most four
abbrev pub FaultComesAtOnce : Type 0
FaultComesAtOnce =
    (bytes : List ℕ) (at n : ℕ) → decoded bytes ≡ Err (codec.BadField at) → at + 4 ≤ n →
    decoded (take n bytes) ≡ Err (codec.BadField at)
