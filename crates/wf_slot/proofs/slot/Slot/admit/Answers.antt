use Rattle.std.proofs.Common.{refl, sym, ◌∙◌, true≢false}
use Rattle.wf_slot.specs.declared.slot.Seat.TheVariants.{Up}
use Rattle.wf_slot.proofs.Seats.{not_away, went_down}
use Rattle.wf_slot.proofs.Ups.{healthy, kept_up, early_up, room_up, spared_slot, down_admits, failed_admits, same_goes, same_admit_writes}
use Rattle.wf_slot.proofs.UpEnds.{up_not_down, up_not_away, admitted_slot, admitted_answer, admitted_writes, admitted_goes, unadmitted_slot, unadmitted_answer, unadmitted_writes, unadmitted_goes}
use Rattle.wf_slot.proofs.slot.Slot.admit.Goals as goal
use Rattle.wf_slot.proofs.slot.Slot.admit.Goals.{in-Complete-2, in-Happen-2}

pub returns-then-is_down-clause-answer : goal.returns-then-is_down-clause-answer
returns-then-is_down-clause-answer c = down_admits c.args.self.now c.args.request c.args.outer.now (c.is_down.ensures.0 c.if-is_down.true)

pub returns-then-is_down-clause-writes : goal.returns-then-is_down-clause-writes
returns-then-is_down-clause-writes c = same_admit_writes c.args.self.now (record { request = c.args.request; outer = c.args.outer.now })

pub returns-then-is_down-clause-goes : goal.returns-then-is_down-clause-goes
returns-then-is_down-clause-goes c = same_goes c.args.self.now 4

pub returns-then-not-works-clause-answer : goal.returns-then-not-works-clause-answer
returns-then-not-works-clause-answer c = failed_admits c.args.self.now c.args.request c.args.outer.now (λ e. true≢false (sym (c.works.ensures.tells.1 e) ∙ c.if-not-works.true)) (λ e. true≢false (sym (c.is_down.ensures.1 e) ∙ c.if-is_down.false))

pub returns-then-not-works-clause-writes : goal.returns-then-not-works-clause-writes
returns-then-not-works-clause-writes c = same_admit_writes c.args.self.now (record { request = c.args.request; outer = c.args.outer.now })

pub returns-then-not-works-clause-goes : goal.returns-then-not-works-clause-goes
returns-then-not-works-clause-goes c = same_goes c.args.self.now 4

pub admit_up-requires-clause-healthy : goal.admit_up-requires-clause-healthy
admit_up-requires-clause-healthy c = healthy c.self.inside.seat c.self.inside.fuse c.self.inside.doubt c.args.self.now c.self.view_is c.self.invariant (c.works.ensures.tells.0 c.if-not-works.false) c.in-Up.node c.in-Up.is

pub admit_up-requires-clause-kept : goal.admit_up-requires-clause-kept
admit_up-requires-clause-kept c = kept_up c.self.inside.seat c.self.inside.fuse c.self.inside.doubt c.args.self.now c.self.view_is c.self.invariant (c.works.ensures.tells.0 c.if-not-works.false) c.in-Up.node c.in-Up.is

pub admit_up-requires-clause-early : goal.admit_up-requires-clause-early
admit_up-requires-clause-early c = early_up c.self.inside.seat c.self.inside.fuse c.self.inside.doubt c.args.self.now c.self.view_is c.self.invariant (c.works.ensures.tells.0 c.if-not-works.false) c.in-Up.node c.in-Up.is c.requires.early

pub admit_up-requires-clause-not_full : goal.admit_up-requires-clause-not_full
admit_up-requires-clause-not_full c = room_up c.self.inside.seat c.self.inside.fuse c.self.inside.doubt c.args.self.now c.self.view_is c.self.invariant (c.works.ensures.tells.0 c.if-not-works.false) c.in-Up.node c.in-Up.is c.requires.not_full

pub invariant_of-self : goal.invariant_of-self
invariant_of-self c = spared_slot c.self.inside.seat c.self.inside.fuse c.self.inside.doubt c.args.self.now c.self.view_is c.self.invariant (c.works.ensures.tells.0 c.if-not-works.false) c.in-Up.node c.in-Up.is c.admit_up.new.node (Up c.admit_up.new.node) c.admit_up.new.fuse c.self.inside.doubt refl (c.in_err-end-in-Up.ensures.spared refl).0 refl (c.in_err-end-in-Up.ensures.spared refl).1

pub unreachable-requires : goal.unreachable-requires
unreachable-requires c = true≢false (sym (c.is_down.ensures.1 (went_down _ _ _ _ c.self.view_is c.in-Down.field-0 c.in-Down.is)) ∙ c.if-is_down.false)

pub unreachable-unreachable : goal.unreachable-unreachable
unreachable-unreachable c = c.unreachable.result

pub unreachable-requires-in-Away : goal.unreachable-requires-in-Away
unreachable-requires-in-Away c = not_away _ _ _ c.self.invariant c.in-Away.is

pub unreachable-unreachable-in-Away : goal.unreachable-unreachable-in-Away
unreachable-unreachable-in-Away c = c.unreachable-in-Away.result

pub invariant_of-self-in-Answered : goal.invariant_of-self-in-Answered
invariant_of-self-in-Answered c = admitted_slot c.self.inside.seat c.self.inside.fuse c.self.inside.doubt c.args.self.now c.self.view_is c.self.invariant (c.works.ensures.tells.0 c.if-not-works.false) c.in-Up.node c.in-Up.is c.admit_up.new.node c.admit_up.new.fuse c.args.request c.args.outer.now c.in_ok-end-in-Up.end c.in_ok-end-in-Up.ensures.ends c.in-Answered.reply c.in-Answered.is

pub invariant_of-self-in-Answered-2 : goal.invariant_of-self-in-Answered-2
invariant_of-self-in-Answered-2 c = admitted_slot c.self.inside.seat c.self.inside.fuse c.self.inside.doubt c.args.self.now c.self.view_is c.self.invariant (c.works.ensures.tells.0 c.if-not-works.false) c.in-Up.node c.in-Up.is c.admit_up.new.node c.admit_up.new.fuse c.args.request c.args.outer.now c.in_ok-end-in-Up.end c.in_ok-end-in-Up.ensures.ends c.in-Answered.reply c.in-Answered.is

pub sit-requires : goal.sit-requires
sit-requires c = c.replace.ensures.after

pub invariant_of-self-in-Up-replace : goal.invariant_of-self-in-Up-replace
invariant_of-self-in-Up-replace c = unadmitted_slot c.self.inside.seat c.self.inside.fuse c.self.inside.doubt c.args.self.now c.self.view_is c.self.invariant (c.works.ensures.tells.0 c.if-not-works.false) c.in-Up.node c.in-Up.is c.admit_up.new.node c.admit_up.new.fuse c.args.request c.args.outer.now c.in_ok-end-in-Up.end c.in_ok-end-in-Up.ensures.ends c.in-Broke.hit c.in-Broke.is c.in-Up-replace.node (sym c.replace.ensures.value ∙ c.in-Up-replace.is) c.seat_after.result c.sit.new.place c.seat_after.ensures c.sit.ensures c.doubt_after.result c.in_ok-kept.kept c.in_ok-kept.ensures c.doubt_after.ensures

pub unreachable-requires-in-Down-replace : goal.unreachable-requires-in-Down-replace
unreachable-requires-in-Down-replace c = up_not_down c.admit_up.new.node c.in-Down-replace.field-0 (sym c.replace.ensures.value ∙ c.in-Down-replace.is)

pub unreachable-unreachable-in-Down-replace : goal.unreachable-unreachable-in-Down-replace
unreachable-unreachable-in-Down-replace c = c.unreachable-in-Down-replace.result

pub unreachable-requires-in-Away-replace : goal.unreachable-requires-in-Away-replace
unreachable-requires-in-Away-replace c = up_not_away c.admit_up.new.node (sym c.replace.ensures.value ∙ c.in-Away-replace.is)

pub unreachable-unreachable-in-Away-replace : goal.unreachable-unreachable-in-Away-replace
unreachable-unreachable-in-Away-replace c = c.unreachable-in-Away-replace.result

pub returns-in-Answered-clause-answer : goal.returns-in-Answered-clause-answer
returns-in-Answered-clause-answer c =
    elim c.match-kept-2.branch [
      | in-Complete-2 w ↦ admitted_answer c.self.inside.seat c.self.inside.fuse c.self.inside.doubt c.args.self.now c.self.view_is c.self.invariant (c.works.ensures.tells.0 c.if-not-works.false) c.in-Up.node c.in-Up.is c.admit_up.new.node c.admit_up.new.fuse c.args.request c.args.outer.now c.in_ok-end-in-Up.end c.in_ok-end-in-Up.ensures.ends c.in-Answered.reply c.in-Answered.is c.match-kept-2.self w.self-is
      | in-Happen-2 w ↦ admitted_answer c.self.inside.seat c.self.inside.fuse c.self.inside.doubt c.args.self.now c.self.view_is c.self.invariant (c.works.ensures.tells.0 c.if-not-works.false) c.in-Up.node c.in-Up.is c.admit_up.new.node c.admit_up.new.fuse c.args.request c.args.outer.now c.in_ok-end-in-Up.end c.in_ok-end-in-Up.ensures.ends c.in-Answered.reply c.in-Answered.is c.match-kept-2.self w.self-is
    ]

pub returns-in-Answered-clause-writes : goal.returns-in-Answered-clause-writes
returns-in-Answered-clause-writes c =
    elim c.match-kept-2.branch [
      | in-Complete-2 w ↦ admitted_writes c.self.inside.seat c.self.inside.fuse c.self.inside.doubt c.args.self.now c.self.view_is c.self.invariant (c.works.ensures.tells.0 c.if-not-works.false) c.in-Up.node c.in-Up.is c.admit_up.new.node c.admit_up.new.fuse c.args.request c.args.outer.now c.in_ok-end-in-Up.end c.in_ok-end-in-Up.ensures.ends c.in-Answered.reply c.in-Answered.is c.match-kept-2.self w.self-is
      | in-Happen-2 w ↦ admitted_writes c.self.inside.seat c.self.inside.fuse c.self.inside.doubt c.args.self.now c.self.view_is c.self.invariant (c.works.ensures.tells.0 c.if-not-works.false) c.in-Up.node c.in-Up.is c.admit_up.new.node c.admit_up.new.fuse c.args.request c.args.outer.now c.in_ok-end-in-Up.end c.in_ok-end-in-Up.ensures.ends c.in-Answered.reply c.in-Answered.is c.match-kept-2.self w.self-is
    ]

pub returns-in-Answered-clause-goes : goal.returns-in-Answered-clause-goes
returns-in-Answered-clause-goes c =
    elim c.match-kept-2.branch [
      | in-Complete-2 w ↦ admitted_goes c.self.inside.seat c.self.inside.fuse c.self.inside.doubt c.args.self.now c.self.view_is c.self.invariant (c.works.ensures.tells.0 c.if-not-works.false) c.in-Up.node c.in-Up.is c.admit_up.new.node c.admit_up.new.fuse c.args.request c.args.outer.now c.in_ok-end-in-Up.end c.in_ok-end-in-Up.ensures.ends c.in-Answered.reply c.in-Answered.is c.match-kept-2.self w.self-is
      | in-Happen-2 w ↦ admitted_goes c.self.inside.seat c.self.inside.fuse c.self.inside.doubt c.args.self.now c.self.view_is c.self.invariant (c.works.ensures.tells.0 c.if-not-works.false) c.in-Up.node c.in-Up.is c.admit_up.new.node c.admit_up.new.fuse c.args.request c.args.outer.now c.in_ok-end-in-Up.end c.in_ok-end-in-Up.ensures.ends c.in-Answered.reply c.in-Answered.is c.match-kept-2.self w.self-is
    ]

pub returns-in-Up-replace-clause-answer : goal.returns-in-Up-replace-clause-answer
returns-in-Up-replace-clause-answer c = unadmitted_answer c.self.inside.seat c.self.inside.fuse c.self.inside.doubt c.args.self.now c.self.view_is c.self.invariant (c.works.ensures.tells.0 c.if-not-works.false) c.in-Up.node c.in-Up.is c.admit_up.new.node c.admit_up.new.fuse c.args.request c.args.outer.now c.in_ok-end-in-Up.end c.in_ok-end-in-Up.ensures.ends c.in-Broke.hit c.in-Broke.is c.in-Up-replace.node (sym c.replace.ensures.value ∙ c.in-Up-replace.is) c.seat_after.result c.sit.new.place c.seat_after.ensures c.sit.ensures c.doubt_after.result c.in_ok-kept.kept c.in_ok-kept.ensures c.doubt_after.ensures c.bar_reply.result c.bar_reply.ensures

pub returns-in-Up-replace-clause-writes : goal.returns-in-Up-replace-clause-writes
returns-in-Up-replace-clause-writes c = unadmitted_writes c.self.inside.seat c.self.inside.fuse c.self.inside.doubt c.args.self.now c.self.view_is c.self.invariant (c.works.ensures.tells.0 c.if-not-works.false) c.in-Up.node c.in-Up.is c.admit_up.new.node c.admit_up.new.fuse c.args.request c.args.outer.now c.in_ok-end-in-Up.end c.in_ok-end-in-Up.ensures.ends c.in-Broke.hit c.in-Broke.is c.in-Up-replace.node (sym c.replace.ensures.value ∙ c.in-Up-replace.is) c.seat_after.result c.sit.new.place c.seat_after.ensures c.sit.ensures c.doubt_after.result c.in_ok-kept.kept c.in_ok-kept.ensures c.doubt_after.ensures

pub returns-in-Up-replace-clause-goes : goal.returns-in-Up-replace-clause-goes
returns-in-Up-replace-clause-goes c = unadmitted_goes c.self.inside.seat c.self.inside.fuse c.self.inside.doubt c.args.self.now c.self.view_is c.self.invariant (c.works.ensures.tells.0 c.if-not-works.false) c.in-Up.node c.in-Up.is c.admit_up.new.node c.admit_up.new.fuse c.args.request c.args.outer.now c.in_ok-end-in-Up.end c.in_ok-end-in-Up.ensures.ends c.in-Broke.hit c.in-Broke.is c.in-Up-replace.node (sym c.replace.ensures.value ∙ c.in-Up-replace.is) c.seat_after.result c.sit.new.place c.seat_after.ensures c.sit.ensures c.doubt_after.result c.in_ok-kept.kept c.in_ok-kept.ensures c.doubt_after.ensures
