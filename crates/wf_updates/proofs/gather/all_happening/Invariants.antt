use Rattle.std.proofs.Common.{◌≡◌, flat_map, take}
use Rattle.wf_updates.specs.Tables.{happening_in}
use Rattle.wf_updates.proofs.gather.all_happening.Given as goal

abbrev pub invariant-loop-entry : goal.invariant-loop-entry
invariant-loop-entry l = l.events ≡ flat_map (λ x. happening_in x.outer) (take l.entry-index l.entries)
