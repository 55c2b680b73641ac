use Rattle.std.proofs.Common.{◌≡◌, ◌-◌, ◌≤◌, length, take, drop}
use Rattle.wf_codec.specs.Reading.{byte_that, bytes_that}
use Rattle.wf_codec.specs.Records.{is_head_char}
use Rattle.wf_codec.proofs.ReadLoop.{from_front}
use Rattle.wf_codec.proofs.head.head_chars_of.Given as goal

abbrev pub invariant-loop : goal.invariant-loop
invariant-loop l = record {
  so_far : from_front (λ before. byte_that is_head_char) (take l.counter l.bytes) (l.count - l.counter) l.rest ≡ bytes_that is_head_char l.count l.bytes;
  behind : drop l.counter l.bytes ≡ l.rest;
  within : l.counter ≤ length l.bytes;
}
