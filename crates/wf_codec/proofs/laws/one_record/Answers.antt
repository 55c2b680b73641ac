use Rattle.wf_codec.proofs.Records.{one_record}
use Rattle.wf_codec.proofs.laws.one_record.Goals as goal

pub returns : goal.returns
returns c = one_record
