use Rattle.std.proofs.Common.{◌≡◌, map, take}
use Rattle.std.specs.List.{enumerate_from}
use Rattle.wf_worklist.specs.Worklists.{item_of}
use Rattle.wf_worklist.proofs.listing.worklist.Given as goal

abbrev pub invariant-loop-at : goal.invariant-loop-at
invariant-loop-at l = l.list ≡ map (item_of l.history.past) (enumerate_from 1 (take l.at l.started))
