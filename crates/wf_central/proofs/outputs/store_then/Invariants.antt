use Rattle.std.proofs.Common.{◌≡◌, take}
use Rattle.wf_semantics.specs.Effects.{after_entries}
use Rattle.wf_central.proofs.outputs.store_then.Given as goal

abbrev pub invariant-loop-entry : goal.invariant-loop-entry
invariant-loop-entry l = l.after ≡ after_entries (take l.entry-index l.entries) l.store
