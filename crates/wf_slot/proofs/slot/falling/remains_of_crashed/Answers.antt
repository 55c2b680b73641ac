use Rattle.std.proofs.Common.{sym, ap, ◌∙◌, subst}
use Rattle.wf_disk.specs.Memory.{Held, told_of}
use Rattle.wf_slot.specs.Fuses.{IsFused}
use Rattle.wf_slot.proofs.Falling.{crash_clock, crash_leaves, crash_fused}
use Rattle.wf_slot.proofs.slot.falling.remains_of_crashed.Goals as goal

pub returns-clause-left : goal.returns-clause-left
returns-clause-left c = record {
  part = c.close-part.ensures.part;
  past = c.close-part.ensures.past;
  clock = crash_clock c.close-part.result.1 c.crash.new.self c.args.outcome c.crash.ensures.left ∙ ap (λ (d : Held). d.clock) c.close-part.ensures.disk;
  leaves = λ file may. subst (λ (d : Held). (told_of d).may_leave file) c.close-part.ensures.disk (crash_leaves c.close-part.result.1 c.crash.new.self c.args.outcome c.crash.ensures.left c.crash.ensures.may file may);
}

pub returns-clause-fused : goal.returns-clause-fused
returns-clause-fused c = λ fuse lit. crash_fused c.close-part.result.1 c.crash.new.self c.args.outcome c.crash.ensures.left fuse (subst (λ (d : Held). IsFused (told_of d) fuse) (sym c.close-part.ensures.disk) lit)
