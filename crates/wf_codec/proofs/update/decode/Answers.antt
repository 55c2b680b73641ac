use Rattle.std.proofs.Common.{arith}
use Rattle.wf_codec.proofs.Decoded.{is_found, is_only}
use Rattle.wf_codec.proofs.update.decode.Goals as goal

pub returns-clause-found : goal.returns-clause-found
returns-clause-found c = is_found c.args.bytes.now c.first_update.result (λ i. omega (arith, c.type_inv.bytes i)) c.first_update.ensures

pub returns-clause-only : goal.returns-clause-only
returns-clause-only c = is_only c.args.bytes.now c.first_update.result c.first_update.ensures
