use Rattle.std.proofs.Common.{◌≡◌, take, filter_map}
use Rattle.wf_actions.proofs.writes.present_writes.Given as goal

abbrev pub invariant-loop-slot : goal.invariant-loop-slot
invariant-loop-slot l = l.writes ≡ filter_map (λ slot. slot) (take l.slot-index l.slots)
