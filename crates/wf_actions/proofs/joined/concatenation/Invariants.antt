use Rattle.std.proofs.Common.{◌≡◌, flat_map, take}
use Rattle.wf_actions.proofs.joined.concatenation.Given as goal

abbrev pub invariant-loop-list : goal.invariant-loop-list
invariant-loop-list g l = l.all ≡ flat_map (λ list. list) (take l.list-index l.lists)
