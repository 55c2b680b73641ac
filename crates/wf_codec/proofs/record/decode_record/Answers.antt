use Rattle.std.proofs.Common.{arith}
use Rattle.wf_codec.proofs.Records.{is_found, is_only}
use Rattle.wf_codec.proofs.record.decode_record.Goals as goal

pub returns-clause-found : goal.returns-clause-found
returns-clause-found c = is_found c.args.body.now c.whole_record.result (λ i. omega (arith, c.type_inv.body i)) c.whole_record.ensures

pub returns-clause-only : goal.returns-clause-only
returns-clause-only c = is_only c.args.body.now c.whole_record.result c.whole_record.ensures
