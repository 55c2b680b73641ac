use Rattle.std.proofs.Common.{refl, sym, ◌∙◌, true≢false}
use Rattle.wf_slot.specs.declared.slot.Seat.TheVariants.{Up}
use Rattle.wf_slot.proofs.Seats.{not_away, went_down}
use Rattle.wf_slot.proofs.Ups.{healthy, kept_up, early_up, room_up, steps_up, spared_slot, down_turns, failed_turns, same_goes, same_turn_writes}
use Rattle.wf_slot.proofs.UpEnds.{up_not_down, up_not_away, turned_slot, turned_answer, turned_writes, turned_goes, unturned_slot, unturned_answer, unturned_writes, unturned_goes}
use Rattle.wf_slot.proofs.slot.Slot.turn.Goals as goal

pub returns-then-is_down-clause-answer : goal.returns-then-is_down-clause-answer
returns-then-is_down-clause-answer c = down_turns c.args.self.now (c.is_down.ensures.0 c.if-is_down.true)

pub returns-then-is_down-clause-writes : goal.returns-then-is_down-clause-writes
returns-then-is_down-clause-writes c = same_turn_writes c.args.self.now

pub returns-then-is_down-clause-goes : goal.returns-then-is_down-clause-goes
returns-then-is_down-clause-goes c = same_goes c.args.self.now 4

pub returns-then-not-works-clause-answer : goal.returns-then-not-works-clause-answer
returns-then-not-works-clause-answer c = failed_turns c.args.self.now (λ e. true≢false (sym (c.works.ensures.tells.1 e) ∙ c.if-not-works.true)) (λ e. true≢false (sym (c.is_down.ensures.1 e) ∙ c.if-is_down.false))

pub returns-then-not-works-clause-writes : goal.returns-then-not-works-clause-writes
returns-then-not-works-clause-writes c = same_turn_writes c.args.self.now

pub returns-then-not-works-clause-goes : goal.returns-then-not-works-clause-goes
returns-then-not-works-clause-goes c = same_goes c.args.self.now 4

pub inputs_in_doubt-requires : goal.inputs_in_doubt-requires
inputs_in_doubt-requires c = λ e. true≢false (sym (c.is_down.ensures.1 e) ∙ c.if-is_down.false)

pub turn_up-requires-clause-healthy : goal.turn_up-requires-clause-healthy
turn_up-requires-clause-healthy c = healthy c.self.inside.seat c.self.inside.fuse c.self.inside.doubt c.args.self.now c.self.view_is c.self.invariant (c.works.ensures.tells.0 c.if-not-works.false) c.in-Up.node c.in-Up.is

pub turn_up-requires-clause-kept : goal.turn_up-requires-clause-kept
turn_up-requires-clause-kept c = kept_up c.self.inside.seat c.self.inside.fuse c.self.inside.doubt c.args.self.now c.self.view_is c.self.invariant (c.works.ensures.tells.0 c.if-not-works.false) c.in-Up.node c.in-Up.is

pub turn_up-requires-clause-early : goal.turn_up-requires-clause-early
turn_up-requires-clause-early c = early_up c.self.inside.seat c.self.inside.fuse c.self.inside.doubt c.args.self.now c.self.view_is c.self.invariant (c.works.ensures.tells.0 c.if-not-works.false) c.in-Up.node c.in-Up.is c.requires.early

pub turn_up-requires-clause-not_full : goal.turn_up-requires-clause-not_full
turn_up-requires-clause-not_full c = room_up c.self.inside.seat c.self.inside.fuse c.self.inside.doubt c.args.self.now c.self.view_is c.self.invariant (c.works.ensures.tells.0 c.if-not-works.false) c.in-Up.node c.in-Up.is c.requires.not_full

pub turn_up-requires-clause-steps : goal.turn_up-requires-clause-steps
turn_up-requires-clause-steps c = steps_up c.self.inside.seat c.self.inside.fuse c.self.inside.doubt c.args.self.now c.self.view_is c.self.invariant (c.works.ensures.tells.0 c.if-not-works.false) c.in-Up.node c.in-Up.is c.requires.steps

pub invariant_of-self : goal.invariant_of-self
invariant_of-self c = spared_slot c.self.inside.seat c.self.inside.fuse c.self.inside.doubt c.args.self.now c.self.view_is c.self.invariant (c.works.ensures.tells.0 c.if-not-works.false) c.in-Up.node c.in-Up.is c.turn_up.new.node (Up c.turn_up.new.node) c.turn_up.new.fuse c.self.inside.doubt refl (c.in_err-end-in-Up.ensures.spared refl).0 refl (c.in_err-end-in-Up.ensures.spared refl).1

pub unreachable-requires : goal.unreachable-requires
unreachable-requires c = true≢false (sym (c.is_down.ensures.1 (went_down _ _ _ _ c.self.view_is c.in-Down.field-0 c.in-Down.is)) ∙ c.if-is_down.false)

pub unreachable-unreachable : goal.unreachable-unreachable
unreachable-unreachable c = c.unreachable.result

pub unreachable-requires-in-Away : goal.unreachable-requires-in-Away
unreachable-requires-in-Away c = not_away _ _ _ c.self.invariant c.in-Away.is

pub unreachable-unreachable-in-Away : goal.unreachable-unreachable-in-Away
unreachable-unreachable-in-Away c = c.unreachable-in-Away.result

pub invariant_of-self-in-Answered-1 : goal.invariant_of-self-in-Answered-1
invariant_of-self-in-Answered-1 c = turned_slot c.self.inside.seat c.self.inside.fuse c.self.inside.doubt c.args.self.now c.self.view_is c.self.invariant (c.works.ensures.tells.0 c.if-not-works.false) c.in-Up.node c.in-Up.is c.turn_up.new.node c.turn_up.new.fuse c.in_ok-end-in-Up.end c.in_ok-end-in-Up.ensures.ends c.in-Answered.reply c.in-Answered.is

pub sit-requires : goal.sit-requires
sit-requires c = c.replace.ensures.after

pub invariant_of-self-in-Up-replace : goal.invariant_of-self-in-Up-replace
invariant_of-self-in-Up-replace c = unturned_slot c.self.inside.seat c.self.inside.fuse c.self.inside.doubt c.args.self.now c.self.view_is c.self.invariant (c.works.ensures.tells.0 c.if-not-works.false) c.in-Up.node c.in-Up.is c.turn_up.new.node c.turn_up.new.fuse c.in_ok-end-in-Up.end c.in_ok-end-in-Up.ensures.ends c.in-Broke.hit c.in-Broke.is c.in-Up-replace.node (sym c.replace.ensures.value ∙ c.in-Up-replace.is) c.seat_after.result c.sit.new.place c.seat_after.ensures c.sit.ensures c.doubt_after.result c.in_ok-inputs.inputs c.in_ok-inputs.ensures c.doubt_after.ensures

pub unreachable-requires-in-Down-replace : goal.unreachable-requires-in-Down-replace
unreachable-requires-in-Down-replace c = up_not_down c.turn_up.new.node c.in-Down-replace.field-0 (sym c.replace.ensures.value ∙ c.in-Down-replace.is)

pub unreachable-unreachable-in-Down-replace : goal.unreachable-unreachable-in-Down-replace
unreachable-unreachable-in-Down-replace c = c.unreachable-in-Down-replace.result

pub unreachable-requires-in-Away-replace : goal.unreachable-requires-in-Away-replace
unreachable-requires-in-Away-replace c = up_not_away c.turn_up.new.node (sym c.replace.ensures.value ∙ c.in-Away-replace.is)

pub unreachable-unreachable-in-Away-replace : goal.unreachable-unreachable-in-Away-replace
unreachable-unreachable-in-Away-replace c = c.unreachable-in-Away-replace.result

pub returns-in-Answered-clause-answer : goal.returns-in-Answered-clause-answer
returns-in-Answered-clause-answer c = turned_answer c.self.inside.seat c.self.inside.fuse c.self.inside.doubt c.args.self.now c.self.view_is c.self.invariant (c.works.ensures.tells.0 c.if-not-works.false) c.in-Up.node c.in-Up.is c.turn_up.new.node c.turn_up.new.fuse c.in_ok-end-in-Up.end c.in_ok-end-in-Up.ensures.ends c.in-Answered.reply c.in-Answered.is

pub returns-in-Answered-clause-writes : goal.returns-in-Answered-clause-writes
returns-in-Answered-clause-writes c = turned_writes c.self.inside.seat c.self.inside.fuse c.self.inside.doubt c.args.self.now c.self.view_is c.self.invariant (c.works.ensures.tells.0 c.if-not-works.false) c.in-Up.node c.in-Up.is c.turn_up.new.node c.turn_up.new.fuse c.in_ok-end-in-Up.end c.in_ok-end-in-Up.ensures.ends c.in-Answered.reply c.in-Answered.is

pub returns-in-Answered-clause-goes : goal.returns-in-Answered-clause-goes
returns-in-Answered-clause-goes c = turned_goes c.self.inside.seat c.self.inside.fuse c.self.inside.doubt c.args.self.now c.self.view_is c.self.invariant (c.works.ensures.tells.0 c.if-not-works.false) c.in-Up.node c.in-Up.is c.turn_up.new.node c.turn_up.new.fuse c.in_ok-end-in-Up.end c.in_ok-end-in-Up.ensures.ends c.in-Answered.reply c.in-Answered.is

pub returns-in-Up-replace-clause-answer : goal.returns-in-Up-replace-clause-answer
returns-in-Up-replace-clause-answer c = unturned_answer c.self.inside.seat c.self.inside.fuse c.self.inside.doubt c.args.self.now c.self.view_is c.self.invariant (c.works.ensures.tells.0 c.if-not-works.false) c.in-Up.node c.in-Up.is c.turn_up.new.node c.turn_up.new.fuse c.in_ok-end-in-Up.end c.in_ok-end-in-Up.ensures.ends c.in-Broke.hit c.in-Broke.is c.in-Up-replace.node (sym c.replace.ensures.value ∙ c.in-Up-replace.is) c.seat_after.result c.sit.new.place c.seat_after.ensures c.sit.ensures c.doubt_after.result c.in_ok-inputs.inputs c.in_ok-inputs.ensures c.doubt_after.ensures c.turn_bar_reply.result c.turn_bar_reply.ensures

pub returns-in-Up-replace-clause-writes : goal.returns-in-Up-replace-clause-writes
returns-in-Up-replace-clause-writes c = unturned_writes c.self.inside.seat c.self.inside.fuse c.self.inside.doubt c.args.self.now c.self.view_is c.self.invariant (c.works.ensures.tells.0 c.if-not-works.false) c.in-Up.node c.in-Up.is c.turn_up.new.node c.turn_up.new.fuse c.in_ok-end-in-Up.end c.in_ok-end-in-Up.ensures.ends c.in-Broke.hit c.in-Broke.is c.in-Up-replace.node (sym c.replace.ensures.value ∙ c.in-Up-replace.is) c.seat_after.result c.sit.new.place c.seat_after.ensures c.sit.ensures c.doubt_after.result c.in_ok-inputs.inputs c.in_ok-inputs.ensures c.doubt_after.ensures

pub returns-in-Up-replace-clause-goes : goal.returns-in-Up-replace-clause-goes
returns-in-Up-replace-clause-goes c = unturned_goes c.self.inside.seat c.self.inside.fuse c.self.inside.doubt c.args.self.now c.self.view_is c.self.invariant (c.works.ensures.tells.0 c.if-not-works.false) c.in-Up.node c.in-Up.is c.turn_up.new.node c.turn_up.new.fuse c.in_ok-end-in-Up.end c.in_ok-end-in-Up.ensures.ends c.in-Broke.hit c.in-Broke.is c.in-Up-replace.node (sym c.replace.ensures.value ∙ c.in-Up-replace.is) c.seat_after.result c.sit.new.place c.seat_after.ensures c.sit.ensures c.doubt_after.result c.in_ok-inputs.inputs c.in_ok-inputs.ensures c.doubt_after.ensures
