use Rattle.std.proofs.Common.{sym, ◌∙◌}
use Rattle.wf_activities.proofs.Completed.{no_item, other_act, already_done, wrong_output, passed}
use Rattle.wf_activities.proofs.items.Items.may_complete.Goals as goal

pub returns-in_default-clause-answer : goal.returns-in_default-clause-answer
returns-in_default-clause-answer c = no_item c.args.self.now.items c.args.item c.args.act c.args.outputs.now c.args.wanted.now (sym c.in_default.is ∙ c.find.ensures)

pub returns-then-of-act-clause-answer : goal.returns-then-of-act-clause-answer
returns-then-of-act-clause-answer c =
    other_act c.args.self.now.items c.args.item c.args.act c.args.outputs.now c.args.wanted.now c.in-Some.of c.in-Some.closed (sym c.in-Some.is ∙ c.find.ensures) c.if-of-act.true

pub returns-then-closed-clause-answer : goal.returns-then-closed-clause-answer
returns-then-closed-clause-answer c =
    already_done c.args.self.now.items c.args.item c.args.act c.args.outputs.now c.args.wanted.now c.in-Some.of c.in-Some.closed (sym c.in-Some.is ∙ c.find.ensures) c.if-of-act.false c.if-closed.true

pub returns-then-not-are_wanted-clause-answer :
    goal.returns-then-not-are_wanted-clause-answer
returns-then-not-are_wanted-clause-answer c =
    wrong_output c.args.self.now.items c.args.item c.args.act c.args.outputs.now c.args.wanted.now c.in-Some.of c.in-Some.closed (sym c.in-Some.is ∙ c.find.ensures) c.if-of-act.false c.if-closed.false
    (sym c.are_wanted.ensures ∙ c.if-not-are_wanted.true)

pub returns-clause-answer : goal.returns-clause-answer
returns-clause-answer c =
    passed c.args.self.now.items c.args.item c.args.act c.args.outputs.now c.args.wanted.now c.in-Some.of c.in-Some.closed (sym c.in-Some.is ∙ c.find.ensures) c.if-of-act.false c.if-closed.false
    (sym c.are_wanted.ensures ∙ c.if-not-are_wanted.false)
