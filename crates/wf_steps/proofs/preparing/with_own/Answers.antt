use Rattle.std.proofs.Common.{◌≡◌, ◌∙◌, List, length, min, ap, ap₂, rules}
use Rattle.std.specs.Prelude.{insert}
use Rattle.wf_model.specs.declared.update.Update.{Update}
use Rattle.wf_steps.proofs.Fits.{insert_min}
use Rattle.wf_steps.proofs.preparing.with_own.Goals as goal

pub returns : goal.returns
returns c =
    let all : c.from_vec.result ≡ insert c.args.inputs.now (min c.args.at (length c.args.inputs.now)) c.args.own.now = search rules in
    all ∙ insert_min c.args.inputs.now c.args.at c.args.own.now
