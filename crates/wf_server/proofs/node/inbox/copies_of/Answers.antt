use Rattle.std.proofs.Common.{◌≡◌, ◌++◌, ◌∷◌, [], List, Vec, ap, ◌∙◌}
use Rattle.std.specs.declared.alloc.Global.{Global}
use Rattle.wf_model.specs.declared.update.Update.{Update}
use Rattle.wf_server.proofs.Inputs.{copied, passed}
use Rattle.wf_server.proofs.node.inbox.copies_of.Goals as goal
use Rattle.wf_server.proofs.node.inbox.copies_of.Goals.{in-Some+in_ok-copy+in_ok-push, in_default}

pub loop-slot-preserved : goal.loop-slot-preserved
loop-slot-preserved c = elim c.match-slot.branch [
  | in-Some+in_ok-copy+in_ok-push w ↦
      ap (λ (v : Vec Update Global). v.items) w.inputs-is
      ∙ copied c.args.slots.now c.loop-slot.slot-index c.slot-item.result w.in-Some.update c.loop-slot.inputs.items w.push.new.self.items c.loop-slot-test.true c.slot-item.is w.in-Some.is c.loop-slot.invariant
      (w.in_ok-push.ensures.items ∙ ap (λ (u : Update). c.loop-slot.inputs.items ++ u ∷ []) w.in_ok-copy.ensures)
  | in_default w ↦ ap (λ (v : Vec Update Global). v.items) w.inputs-is ∙ passed c.args.slots.now c.loop-slot.slot-index c.slot-item.result c.loop-slot.inputs.items c.loop-slot-test.true c.slot-item.is w.in_default.is c.loop-slot.invariant
]
