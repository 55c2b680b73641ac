use Rattle.std.proofs.Common.{arith, rules}
use Rattle.wf_codec.specs.declared.record.JournalRecord.TheVariants.{Admit}
use Rattle.wf_codec.specs.Records.{record_spelling}
use Rattle.wf_codec.proofs.Bodies.{body_of}
use Rattle.wf_codec.proofs.body.encode_admit.Goals as goal

pub returns : goal.returns
unfolding record_spelling
returns c = body_of (Admit c.args.request c.args.outer.now) c.from_vec.result (c.requires, (omega (arith, c.ranges.request), c.outer_room-room.ensures.held)) (search rules)
