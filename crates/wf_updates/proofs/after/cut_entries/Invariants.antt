use Rattle.std.proofs.Common.{◌≡◌, take}
use Rattle.wf_views.specs.Knowledge.{cut_entries}
use Rattle.wf_views.specs.Absorbing.{entries_in}
use Rattle.wf_updates.specs.Tables.{told_by}
use Rattle.wf_updates.proofs.after.cut_entries.Given as goal

abbrev pub invariant-loop-update : goal.invariant-loop-update
invariant-loop-update l = l.entries ≡ cut_entries (told_by l.known) (entries_in (take l.update-index l.all))
