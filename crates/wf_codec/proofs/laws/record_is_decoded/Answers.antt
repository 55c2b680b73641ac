use Rattle.wf_codec.proofs.Records.{record_again, record_at_again}
use Rattle.wf_codec.proofs.laws.record_is_decoded.Goals as goal

pub returns-clause-whole : goal.returns-clause-whole
returns-clause-whole c = record_again

pub returns-clause-front : goal.returns-clause-front
returns-clause-front c = record_at_again
