use Rattle.std.proofs.Common.{◌≡◌, ◌-◌, None}
use Rattle.wf_codec.specs.Reading.{items_at}
use Rattle.wf_codec.proofs.ReadLoop.{from_front}
use Rattle.wf_codec.proofs.item.items_of.Given as goal

abbrev pub invariant-loop : goal.invariant-loop
invariant-loop g l = from_front (g.T.Read.reading l.numbers) l.items (l.count - l.counter) l.rest ≡ items_at (g.T.Read.reading l.numbers) l.count None l.bytes
