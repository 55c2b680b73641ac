use Rattle.wf_trail.proofs.Leaving.{one_more_named}
use Rattle.wf_trail.proofs.shelf.join.Goals as goal

pub returns-clause-unit : goal.returns-clause-unit
returns-clause-unit c = λ units within first behind.
    one_more_named units c.args.unit c.append_rest.result c.first_loss.result c.args.rest c.args.given within (λ others. c.append_rest.ensures.unit units first others) c.first_loss.ensures behind
