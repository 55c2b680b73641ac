use Rattle.std.proofs.Common.{◌≡◌, ◌-◌, length}
use Rattle.wf_codec.specs.Reading.{byte_that, bytes_that}
use Rattle.wf_model.specs.Txt.{is_text_char}
use Rattle.wf_codec.proofs.ReadLoop.{from_front}
use Rattle.wf_codec.proofs.value.chars_of.Given as goal

abbrev pub invariant-loop : goal.invariant-loop
invariant-loop l = record {
  so_far : from_front (λ before. byte_that is_text_char) l.text (l.count - l.counter) l.rest ≡ bytes_that is_text_char l.count l.bytes;
  room : length l.text ≡ l.counter;
}
