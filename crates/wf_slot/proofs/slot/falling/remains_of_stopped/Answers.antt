use Rattle.std.proofs.Common.{ap, ◌∙◌, subst}
use Rattle.wf_disk.specs.Memory.{Held, told_of}
use Rattle.wf_slot.proofs.slot.falling.remains_of_stopped.Goals as goal

pub returns-clause-left : goal.returns-clause-left
returns-clause-left c = record {
  part = c.close-part.ensures.part;
  past = c.close-part.ensures.past;
  clock = c.without_arm.ensures.clock ∙ ap (λ (d : Held). d.clock) c.close-part.ensures.disk;
  leaves = λ file may. subst (λ (d : Held). (told_of d).may_leave file) c.close-part.ensures.disk (c.without_arm.ensures.leaves file may);
}
