use Rattle.std.proofs.Common.{◌≡◌, ◌+◌, ap, length}
use Rattle.wf_steps.proofs.Ends.{ok_grows}
use Rattle.wf_steps.proofs.following.take_body.Goals as goal

pub returns-clause-grows : goal.returns-clause-grows
returns-clause-grows c = ok_grows c.follow.result c.args.replica.now.part c.follow.new.replica.part c.args.replica.now.past c.follow.new.replica.past c.in_ok-entry.entry c.args.body.now c.follow.ensures.part c.follow.ensures.ok c.in_ok-entry.ensures.found.1
