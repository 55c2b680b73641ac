use Rattle.std.proofs.Common.{◌+◌, ◌≤◌, sym, ◌∙◌, subst, true≢false}
use Rattle.wf_model.specs.Faults.{last_count}
use Rattle.wf_slot.specs.Slots.{SlotState}
use Rattle.wf_slot.proofs.Finishing.{calm_ends, calm_writes, calm_goes, calm_counts, lost_ends, lost_writes, lost_goes, lost_counts, lost_calm}
use Rattle.wf_slot.proofs.slot.Slot.finish.Goals as goal

-- it works

pub returns-then-works-clause-counts : goal.returns-then-works-clause-counts
returns-then-works-clause-counts c = calm_counts c.args.self.now c.disarm.new.self c.disarm.ensures (c.works.ensures.tells.0 c.if-works.true) (c.works.ensures.certain c.if-works.true)

pub returns-then-works-clause-ends : goal.returns-then-works-clause-ends
returns-then-works-clause-ends c = calm_ends c.args.self.now c.disarm.new.self c.disarm.ensures (c.works.ensures.tells.0 c.if-works.true) (c.works.ensures.certain c.if-works.true)

pub returns-then-works-clause-writes : goal.returns-then-works-clause-writes
returns-then-works-clause-writes c = calm_writes c.args.self.now c.disarm.new.self c.disarm.ensures (c.works.ensures.tells.0 c.if-works.true) (c.works.ensures.certain c.if-works.true)

pub returns-then-works-clause-goes : goal.returns-then-works-clause-goes
returns-then-works-clause-goes c = calm_goes c.args.self.now c.disarm.new.self c.disarm.ensures (c.works.ensures.tells.0 c.if-works.true) (c.works.ensures.certain c.if-works.true)

pub returns-then-works-clause-calm : goal.returns-then-works-clause-calm
returns-then-works-clause-calm c = λ _. c.disarm.ensures

-- it was lost

pub recover-requires : goal.recover-requires
recover-requires c = record { early = subst (λ (s : SlotState). s.clock + 2000 ≤ last_count) (sym c.disarm.ensures) c.requires.early }

pub returns-clause-counts : goal.returns-clause-counts
returns-clause-counts c = lost_counts c.args.self.now c.disarm.new.self c.disarm.ensures (λ e. true≢false (sym (c.works.ensures.tells.1 e) ∙ c.if-works.false)) c.recover.new.self _ c.in_ok-recover.ensures.answer c.taken.result c.admitted.result c.taken.ensures c.admitted.ensures

pub returns-clause-ends : goal.returns-clause-ends
returns-clause-ends c = lost_ends c.args.self.now c.disarm.new.self c.disarm.ensures (λ e. true≢false (sym (c.works.ensures.tells.1 e) ∙ c.if-works.false)) c.recover.new.self _ c.in_ok-recover.ensures.answer

pub returns-clause-writes : goal.returns-clause-writes
returns-clause-writes c = lost_writes c.args.self.now c.disarm.new.self c.disarm.ensures (λ e. true≢false (sym (c.works.ensures.tells.1 e) ∙ c.if-works.false)) c.recover.new.self _ c.in_ok-recover.ensures.answer c.in_ok-recover.ensures.writes

pub returns-clause-goes : goal.returns-clause-goes
returns-clause-goes c = lost_goes c.args.self.now c.disarm.new.self c.disarm.ensures (λ e. true≢false (sym (c.works.ensures.tells.1 e) ∙ c.if-works.false)) c.recover.new.self _ c.in_ok-recover.ensures.answer c.in_ok-recover.ensures.goes

pub returns-clause-calm : goal.returns-clause-calm
returns-clause-calm c = lost_calm c.args.self.now c.disarm.new.self c.disarm.ensures (λ e. true≢false (sym (c.works.ensures.tells.1 e) ∙ c.if-works.false)) c.recover.new.self _ c.in_ok-recover.ensures.answer
