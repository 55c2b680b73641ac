use Rattle.std.proofs.Common.{sym, ◌∙◌, ap, arith}
use Rattle.wf_semantics.specs.Effects.{after_outer}
use Rattle.wf_central.proofs.Writing.{entries_more}
use Rattle.wf_central.proofs.outputs.store_then.Goals as goal

pub loop-entry-preserved : goal.loop-entry-preserved
loop-entry-preserved c =
    c.write_outer.ensures
    ∙ ap (after_outer c.entry-item.result.outer) c.loop-entry.invariant
    ∙ sym (entries_more c.args.entries.now c.loop-entry.entry-index c.entry-item.result c.args.store.now (omega arith) c.entry-item.is)
