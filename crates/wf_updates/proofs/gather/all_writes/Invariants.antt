use Rattle.std.proofs.Common.{◌≡◌, flat_map, take}
use Rattle.wf_updates.proofs.gather.all_writes.Given as goal

abbrev pub invariant-loop-update : goal.invariant-loop-update
invariant-loop-update l = l.joined ≡ flat_map (λ update. update.writes) (take l.update-index l.all)
