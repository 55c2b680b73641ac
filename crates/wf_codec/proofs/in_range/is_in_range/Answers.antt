use Rattle.std.proofs.Common.{sym, ◌∙◌}
use Rattle.wf_codec.proofs.Decided.{decided, decides}
use Rattle.wf_codec.proofs.in_range.is_in_range.Goals as goal

pub returns : goal.returns
returns c = (λ h. decided c.args.update.now (sym c.is_whole.ensures ∙ h), λ r. c.is_whole.ensures ∙ decides c.args.update.now r)
