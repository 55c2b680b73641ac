use Rattle.wf_histories.specs.Histories.{taken}
use Rattle.wf_agreement.proofs.Walking.{made_so_far}
use Rattle.wf_agreement.proofs.walk.own_updates.Goals as goal

pub returns : goal.returns
returns c = made_so_far c.args.part.now c.args.history.now.past (taken c.args.history.now.past) c.in_ok-walk.walk c.in_ok-walk.ensures
