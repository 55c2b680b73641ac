use Rattle.std.proofs.Common.{sym, ◌∙◌}
use Rattle.wf_slot.proofs.Seats.{not_away}
use Rattle.wf_slot.proofs.Crashing.{crashed_state, crashed_slot, crashed_answers, crashed_not, stays_state, stays_slot, stays_answers, stays_not}
use Rattle.wf_slot.proofs.slot.Slot.crash.Goals as goal

pub sit-requires : goal.sit-requires
sit-requires c = c.replace.ensures.after

pub sit-requires-in-Down : goal.sit-requires-in-Down
sit-requires-in-Down c = c.replace.ensures.after

pub unreachable-requires : goal.unreachable-requires
unreachable-requires c = not_away _ _ _ c.self.invariant (sym c.replace.ensures.value ∙ c.in-Away.is)

pub unreachable-unreachable : goal.unreachable-unreachable
unreachable-unreachable c = c.unreachable.result

-- one that was up

pub invariant_of-self : goal.invariant_of-self
invariant_of-self c = crashed_slot _ c.self.inside.fuse c.self.inside.doubt _ c.self.view_is c.self.invariant c.in-Up.node (sym c.replace.ensures.value ∙ c.in-Up.is) c.remains_of_crashed.result c.remains_of_crashed.ensures.left c.sit.new.place c.sit.ensures c.remains_of_crashed.ensures.fused c.remains_of_crashed.ensures.few

pub returns-in-Up-clause-answer : goal.returns-in-Up-clause-answer
returns-in-Up-clause-answer c = crashed_answers _ c.self.inside.fuse c.self.inside.doubt _ c.self.view_is c.self.invariant c.in-Up.node (sym c.replace.ensures.value ∙ c.in-Up.is) c.remains_of_crashed.result c.remains_of_crashed.ensures.left c.sit.new.place c.sit.ensures

pub returns-in-Up-clause-fell : goal.returns-in-Up-clause-fell
returns-in-Up-clause-fell c = λ _. crashed_state _ c.self.inside.fuse c.self.inside.doubt _ c.self.view_is c.self.invariant c.in-Up.node (sym c.replace.ensures.value ∙ c.in-Up.is) c.remains_of_crashed.result c.remains_of_crashed.ensures.left c.sit.new.place c.sit.ensures

pub returns-in-Up-clause-stays : goal.returns-in-Up-clause-stays
returns-in-Up-clause-stays c = crashed_not _ c.self.inside.fuse c.self.inside.doubt _ c.self.view_is c.self.invariant c.in-Up.node (sym c.replace.ensures.value ∙ c.in-Up.is) c.remains_of_crashed.result c.remains_of_crashed.ensures.left c.sit.new.place c.sit.ensures

-- one that is down

pub invariant_of-self-in-Down : goal.invariant_of-self-in-Down
invariant_of-self-in-Down c = stays_slot _ c.self.inside.fuse c.self.inside.doubt _ c.self.view_is c.self.invariant c.in-Down.remains (sym c.replace.ensures.value ∙ c.in-Down.is) c.sit-in-Down.new.place c.sit-in-Down.ensures

pub returns-in-Down-clause-answer : goal.returns-in-Down-clause-answer
returns-in-Down-clause-answer c = stays_answers _ c.self.inside.fuse c.self.inside.doubt _ c.self.view_is c.self.invariant c.in-Down.remains (sym c.replace.ensures.value ∙ c.in-Down.is) c.sit-in-Down.new.place c.sit-in-Down.ensures

pub returns-in-Down-clause-fell : goal.returns-in-Down-clause-fell
returns-in-Down-clause-fell c = stays_not _ c.self.inside.fuse c.self.inside.doubt _ c.self.view_is c.self.invariant c.in-Down.remains (sym c.replace.ensures.value ∙ c.in-Down.is) c.sit-in-Down.new.place c.sit-in-Down.ensures

pub returns-in-Down-clause-stays : goal.returns-in-Down-clause-stays
returns-in-Down-clause-stays c = λ _. stays_state _ c.self.inside.fuse c.self.inside.doubt _ c.self.view_is c.self.invariant c.in-Down.remains (sym c.replace.ensures.value ∙ c.in-Down.is) c.sit-in-Down.new.place c.sit-in-Down.ensures
