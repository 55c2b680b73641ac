use Rattle.std.proofs.Common.{◌==◌, get_or, false, refl}
use Rattle.wf_model.specs.declared.ids.VarId.{VarId}
use Rattle.wf_partition.proofs.Bits.{marked_none, items_more}
use Rattle.wf_partition.proofs.holding.mark_vars.Goals as goal

pub loop-v-init : goal.loop-v-init
loop-v-init c = marked_none (λ x. false) c.args.vars.now (λ x. refl)

pub loop-v-preserved : goal.loop-v-preserved
loop-v-preserved c =
    items_more (λ (v : VarId) x. v.0 == x) c.args.outputs.now c.loop-v.v-index (get_or c.args.outputs.now c.loop-v.v-index (record { 0 = 0 })) (record { 0 = 0 }) c.args.vars.now c.loop-v.vars c.mark.new.bits
    c.loop-v-test.true refl c.loop-v.invariant c.mark.ensures
