use Rattle.std.proofs.Common.{ap, ◌∙◌}
use Rattle.wf_exchange.specs.Rings.{popped}
use Rattle.wf_actors.proofs.Answered.{more_same, asks_same, asks_one}
use Rattle.wf_actors.proofs.answering.answer_next.Goals as goal

pub returns-in_default-clause-said : goal.returns-in_default-clause-said
returns-in_default-clause-said g c = more_same c.args.node.now.past (popped c.args.desk.now.mouth) (popped c.pop.new.self) c.args.desk.now.answers c.in_default.ensures.none.0

pub returns-in_default-clause-some : goal.returns-in_default-clause-some
returns-in_default-clause-some g c = asks_same c.args.node.now.past (popped c.args.desk.now.mouth) (popped c.pop.new.self) c.in_default.ensures.none.0

pub returns-in_err-answer_at-clause-some : goal.returns-in_err-answer_at-clause-some
returns-in_err-answer_at-clause-some g c =
    asks_one c.args.node.now.past c.answer_at.new.node.past (popped c.args.desk.now.mouth) (popped c.answer_at.new.desk.mouth) c.in-Some.item
    (ap popped c.answer_at.ensures.mouth ∙ c.in-Some.ensures.some) c.answer_at.ensures.some

pub returns-clause-some : goal.returns-clause-some
returns-clause-some g c =
    asks_one c.args.node.now.past c.answer_at.new.node.past (popped c.args.desk.now.mouth) (popped c.answer_at.new.desk.mouth) c.in-Some.item
    (ap popped c.answer_at.ensures.mouth ∙ c.in-Some.ensures.some) c.answer_at.ensures.some
