use Rattle.std.proofs.Common.{◌==◌, get_or, false, refl}
use Rattle.wf_model.specs.declared.ids.TransId.{TransId}
use Rattle.wf_partition.proofs.Bits.{marked_none, items_more}
use Rattle.wf_partition.proofs.marks.mark_all.Goals as goal

pub loop-t-init : goal.loop-t-init
loop-t-init c = marked_none (λ t. false) c.args.bits.now (λ t. refl)

pub loop-t-preserved : goal.loop-t-preserved
loop-t-preserved c =
    items_more (λ (x : TransId) t. x.0 == t) c.args.transitions.now c.loop-t.t-index (get_or c.args.transitions.now c.loop-t.t-index (record { 0 = 0 })) (record { 0 = 0 }) c.args.bits.now c.loop-t.bits c.mark.new.bits c.loop-t-test.true refl
    c.loop-t.invariant c.mark.ensures
