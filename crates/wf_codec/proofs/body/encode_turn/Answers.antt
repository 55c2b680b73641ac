use Rattle.std.proofs.Common.{arith, rules}
use Rattle.wf_codec.specs.declared.record.JournalRecord.TheVariants.{Turn}
use Rattle.wf_codec.specs.Records.{record_spelling}
use Rattle.wf_codec.proofs.Bodies.{body_of}
use Rattle.wf_codec.proofs.body.encode_turn.Goals as goal

pub returns : goal.returns
unfolding record_spelling
returns c = body_of (Turn c.args.step c.args.inputs.now c.args.sealed) c.from_vec.result ((c.requires.each, c.requires.ascend, c.requires.sealed), (omega (arith, c.ranges.step), c.updates_room-room.ensures.held)) (search rules)
