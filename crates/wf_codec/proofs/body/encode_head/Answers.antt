use Rattle.std.proofs.Common.{refl, rules}
use Rattle.wf_codec.specs.declared.record.JournalRecord.TheVariants.{Head}
use Rattle.wf_codec.specs.Records.{record_spelling}
use Rattle.wf_codec.proofs.Bodies.{body_of}
use Rattle.wf_codec.proofs.body.encode_head.Goals as goal

pub returns : goal.returns
unfolding record_spelling
returns c = body_of (Head 1 c.args.chart.now c.args.unit.now) c.from_vec.result ((refl, c.requires.chart, c.requires.unit), tt) (search rules)
