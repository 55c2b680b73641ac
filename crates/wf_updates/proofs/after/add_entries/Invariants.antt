use Rattle.std.proofs.Common.{◌≡◌, ◌++◌, take}
use Rattle.wf_updates.specs.Tables.{told_by}
use Rattle.wf_updates.specs.After.{entries_from}
use Rattle.wf_updates.proofs.after.add_entries.Given as goal

abbrev pub invariant-loop-outer : goal.invariant-loop-outer
invariant-loop-outer l = l.entries ≡ l.initial.entries ++ entries_from (told_by l.known) l.fn.unit (take l.outer-index l.outers)
