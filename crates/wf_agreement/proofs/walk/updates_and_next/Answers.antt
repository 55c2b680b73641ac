use Rattle.std.proofs.Common.{◌∙◌}
use Rattle.wf_histories.specs.Histories.{taken}
use Rattle.wf_agreement.proofs.Walking.{made_next}
use Rattle.wf_agreement.proofs.walk.updates_and_next.Goals as goal

pub returns : goal.returns
returns c = c.in_ok-push.ensures.ok ∙ made_next c.args.part.now c.args.history.now.past (taken c.args.history.now.past) c.in_ok-walk.walk c.in_ok-walk.ensures
