use Rattle.std.proofs.Common.{◌≡◌, flat_map, take}
use Rattle.wf_updates.proofs.gather.all_raised.Given as goal

abbrev pub invariant-loop-update : goal.invariant-loop-update
invariant-loop-update l = l.joined ≡ flat_map (λ update. update.raised) (take l.update-index l.all)
