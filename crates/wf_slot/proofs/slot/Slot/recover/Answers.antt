use Rattle.std.proofs.Common.{sym, ◌∙◌, rules}
use Rattle.wf_slot.proofs.Seats.{not_away}
use Rattle.wf_slot.proofs.Disks.{some_by}
use Rattle.wf_slot.proofs.Recoveries.{kept_here, holds_here, early_here, rose_slot, rose_answers, rose_writes, rose_goes, lost_slot, had_one, lost_answers, lost_writes, lost_goes}
use Rattle.wf_slot.proofs.slot.Slot.recover.Goals as goal

pub remains_of-remains-requires : goal.remains_of-remains-requires
remains_of-remains-requires c = λ is. not_away _ _ _ c.self.invariant (sym c.replace.ensures.value ∙ is)

pub start_again-requires-clause-early : goal.start_again-requires-clause-early
start_again-requires-clause-early c = early_here _ _ c.self.inside.fuse c.self.inside.doubt _ c.self.view_is c.self.invariant c.replace.ensures.value c.remains_of-remains.result c.remains_of-remains.ensures.kept c.remains_of-remains.ensures.same c.requires.early

pub start_again-requires-clause-holds : goal.start_again-requires-clause-holds
start_again-requires-clause-holds c = holds_here _ _ c.self.inside.fuse c.self.inside.doubt _ c.self.view_is c.self.invariant c.replace.ensures.value c.remains_of-remains.result c.remains_of-remains.ensures.kept c.remains_of-remains.ensures.same

pub fuse_after-self-inside-requires : goal.fuse_after-self-inside-requires
fuse_after-self-inside-requires c = some_by c.self.inside.fuse _ (c.in-Ok.ensures.opens c.self.inside.fuse c.self.inside.doubt (kept_here _ _ c.self.inside.fuse c.self.inside.doubt _ c.self.view_is c.self.invariant c.replace.ensures.value c.remains_of-remains.result c.remains_of-remains.ensures.kept c.remains_of-remains.ensures.same).0).longer

pub invariant_of-self : goal.invariant_of-self
invariant_of-self c = rose_slot _ _ c.self.inside.fuse c.self.inside.doubt _ c.self.view_is c.self.invariant c.replace.ensures.value c.remains_of-remains.result c.remains_of-remains.ensures.kept c.remains_of-remains.ensures.same c.in-Ok.node (c.in-Ok.ensures.opens c.self.inside.fuse c.self.inside.doubt (kept_here _ _ c.self.inside.fuse c.self.inside.doubt _ c.self.view_is c.self.invariant c.replace.ensures.value c.remains_of-remains.result c.remains_of-remains.ensures.kept c.remains_of-remains.ensures.same).0) c.fuse_after-self-inside.result c.fuse_after-self-inside.ensures c.sit.new.place c.sit.ensures

pub returns-in-Ok-clause-answer : goal.returns-in-Ok-clause-answer
returns-in-Ok-clause-answer c = rose_answers _ _ c.self.inside.fuse c.self.inside.doubt _ c.self.view_is c.self.invariant c.replace.ensures.value c.remains_of-remains.result c.remains_of-remains.ensures.kept c.remains_of-remains.ensures.same c.in-Ok.node (c.in-Ok.ensures.opens c.self.inside.fuse c.self.inside.doubt (kept_here _ _ c.self.inside.fuse c.self.inside.doubt _ c.self.view_is c.self.invariant c.replace.ensures.value c.remains_of-remains.result c.remains_of-remains.ensures.kept c.remains_of-remains.ensures.same).0) c.fuse_after-self-inside.result c.fuse_after-self-inside.ensures c.sit.new.place c.sit.ensures c.taken.result c.admitted.result c.taken.ensures c.admitted.ensures

pub returns-in-Ok-clause-writes : goal.returns-in-Ok-clause-writes
returns-in-Ok-clause-writes c = rose_writes _ _ c.self.inside.fuse c.self.inside.doubt _ c.self.view_is c.self.invariant c.replace.ensures.value c.remains_of-remains.result c.remains_of-remains.ensures.kept c.remains_of-remains.ensures.same c.in-Ok.node (c.in-Ok.ensures.opens c.self.inside.fuse c.self.inside.doubt (kept_here _ _ c.self.inside.fuse c.self.inside.doubt _ c.self.view_is c.self.invariant c.replace.ensures.value c.remains_of-remains.result c.remains_of-remains.ensures.kept c.remains_of-remains.ensures.same).0) c.fuse_after-self-inside.result c.fuse_after-self-inside.ensures c.sit.new.place c.sit.ensures

pub returns-in-Ok-clause-goes : goal.returns-in-Ok-clause-goes
returns-in-Ok-clause-goes c = rose_goes _ _ c.self.inside.fuse c.self.inside.doubt _ c.self.view_is c.self.invariant c.replace.ensures.value c.remains_of-remains.result c.remains_of-remains.ensures.kept c.remains_of-remains.ensures.same c.in-Ok.node (c.in-Ok.ensures.opens c.self.inside.fuse c.self.inside.doubt (kept_here _ _ c.self.inside.fuse c.self.inside.doubt _ c.self.view_is c.self.invariant c.replace.ensures.value c.remains_of-remains.result c.remains_of-remains.ensures.kept c.remains_of-remains.ensures.same).0) c.fuse_after-self-inside.result c.fuse_after-self-inside.ensures c.sit.new.place c.sit.ensures

pub invariant_of-self-then-not-failed : goal.invariant_of-self-then-not-failed
invariant_of-self-then-not-failed c = lost_slot _ _ c.self.inside.fuse c.self.inside.doubt _ c.self.view_is c.self.invariant c.replace.ensures.value c.remains_of-remains.result c.remains_of-remains.ensures.kept c.remains_of-remains.ensures.same c.in-Err.field-0 (c.in-Err.ensures.shut c.self.inside.fuse c.self.inside.doubt (kept_here _ _ c.self.inside.fuse c.self.inside.doubt _ c.self.view_is c.self.invariant c.replace.ensures.value c.remains_of-remains.result c.remains_of-remains.ensures.kept c.remains_of-remains.ensures.same).0) c.sit-in-Err.new.place (search (rules, c.sit-in-Err.ensures)) c.take-hit.new.self c.take-hit.ensures.after

pub unreachable-requires : goal.unreachable-requires
unreachable-requires c = had_one _ _ c.self.inside.fuse c.self.inside.doubt _ c.self.view_is c.self.invariant c.replace.ensures.value c.remains_of-remains.result c.remains_of-remains.ensures.kept c.remains_of-remains.ensures.same c.in-Err.field-0 (c.in-Err.ensures.shut c.self.inside.fuse c.self.inside.doubt (kept_here _ _ c.self.inside.fuse c.self.inside.doubt _ c.self.view_is c.self.invariant c.replace.ensures.value c.remains_of-remains.result c.remains_of-remains.ensures.kept c.remains_of-remains.ensures.same).0) c.sit-in-Err.new.place (search (rules, c.sit-in-Err.ensures)) c.take-hit.new.self c.take-hit.ensures.after (search (rules, c.if-not-failed.false)) (sym c.take-hit.ensures.value ∙ c.in-None.is)

pub unreachable-unreachable : goal.unreachable-unreachable
unreachable-unreachable c = c.unreachable.result

pub invariant_of-self-in-Err : goal.invariant_of-self-in-Err
invariant_of-self-in-Err c = lost_slot _ _ c.self.inside.fuse c.self.inside.doubt _ c.self.view_is c.self.invariant c.replace.ensures.value c.remains_of-remains.result c.remains_of-remains.ensures.kept c.remains_of-remains.ensures.same c.in-Err.field-0 (c.in-Err.ensures.shut c.self.inside.fuse c.self.inside.doubt (kept_here _ _ c.self.inside.fuse c.self.inside.doubt _ c.self.view_is c.self.invariant c.replace.ensures.value c.remains_of-remains.result c.remains_of-remains.ensures.kept c.remains_of-remains.ensures.same).0) c.sit-in-Err.new.place (search (rules, c.sit-in-Err.ensures)) c.take-hit.new.self c.take-hit.ensures.after

pub returns-in-Some-clause-answer : goal.returns-in-Some-clause-answer
returns-in-Some-clause-answer c = lost_answers _ _ c.self.inside.fuse c.self.inside.doubt _ c.self.view_is c.self.invariant c.replace.ensures.value c.remains_of-remains.result c.remains_of-remains.ensures.kept c.remains_of-remains.ensures.same c.in-Err.field-0 (c.in-Err.ensures.shut c.self.inside.fuse c.self.inside.doubt (kept_here _ _ c.self.inside.fuse c.self.inside.doubt _ c.self.view_is c.self.invariant c.replace.ensures.value c.remains_of-remains.result c.remains_of-remains.ensures.kept c.remains_of-remains.ensures.same).0) c.sit-in-Err.new.place (search (rules, c.sit-in-Err.ensures)) c.take-hit.new.self c.take-hit.ensures.after (search (rules, c.if-not-failed.false)) c.in-Some.hit (sym c.take-hit.ensures.value ∙ c.in-Some.is) c.bar_reply.result c.bar_reply.ensures

pub returns-in-Some-clause-writes : goal.returns-in-Some-clause-writes
returns-in-Some-clause-writes c = lost_writes _ _ c.self.inside.fuse c.self.inside.doubt _ c.self.view_is c.self.invariant c.replace.ensures.value c.remains_of-remains.result c.remains_of-remains.ensures.kept c.remains_of-remains.ensures.same c.in-Err.field-0 (c.in-Err.ensures.shut c.self.inside.fuse c.self.inside.doubt (kept_here _ _ c.self.inside.fuse c.self.inside.doubt _ c.self.view_is c.self.invariant c.replace.ensures.value c.remains_of-remains.result c.remains_of-remains.ensures.kept c.remains_of-remains.ensures.same).0) c.sit-in-Err.new.place (search (rules, c.sit-in-Err.ensures)) c.take-hit.new.self c.take-hit.ensures.after

pub returns-in-Some-clause-goes : goal.returns-in-Some-clause-goes
returns-in-Some-clause-goes c = lost_goes _ _ c.self.inside.fuse c.self.inside.doubt _ c.self.view_is c.self.invariant c.replace.ensures.value c.remains_of-remains.result c.remains_of-remains.ensures.kept c.remains_of-remains.ensures.same c.in-Err.field-0 (c.in-Err.ensures.shut c.self.inside.fuse c.self.inside.doubt (kept_here _ _ c.self.inside.fuse c.self.inside.doubt _ c.self.view_is c.self.invariant c.replace.ensures.value c.remains_of-remains.result c.remains_of-remains.ensures.kept c.remains_of-remains.ensures.same).0) c.sit-in-Err.new.place (search (rules, c.sit-in-Err.ensures)) c.take-hit.new.self c.take-hit.ensures.after
