use Rattle.std.proofs.Common.{◌≡◌, ◌∙◌, length, min, rules}
use Rattle.std.specs.Prelude.{insert}
use Rattle.wf_steps.proofs.Fits.{insert_min}
use Rattle.wf_agreement.proofs.walk.with_own.Goals as goal

pub returns : goal.returns
returns c =
    let all : c.from_vec.result ≡ insert c.args.inputs.now (min c.args.unit.0 (length c.args.inputs.now)) c.args.own.now = search rules in
    all ∙ insert_min c.args.inputs.now c.args.unit.0 c.args.own.now
