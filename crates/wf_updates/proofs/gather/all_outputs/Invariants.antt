use Rattle.std.proofs.Common.{◌≡◌, take}
use Rattle.wf_views.specs.Views.{outputs_in}
use Rattle.wf_updates.proofs.gather.all_outputs.Given as goal

abbrev pub invariant-loop-entry : goal.invariant-loop-entry
invariant-loop-entry l = l.joined ≡ outputs_in (take l.entry-index l.entries)
