use Rattle.wf_actors.proofs.Answered.{one_asked}
use Rattle.wf_actors.proofs.answering.answer_at.Goals as goal

pub returns-in_err-push-clause-some : goal.returns-in_err-push-clause-some
returns-in_err-push-clause-some g c = one_asked c.args.node.now.past c.answer.new.node.past c.args.item.now c.in_ok-answer.answer c.in_ok-answer.ensures.said

pub returns-clause-some : goal.returns-clause-some
returns-clause-some g c = one_asked c.args.node.now.past c.answer.new.node.past c.args.item.now c.in_ok-answer.answer c.in_ok-answer.ensures.said
