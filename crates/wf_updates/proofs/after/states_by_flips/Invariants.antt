use Rattle.std.proofs.Common.{◌≡◌, take}
use Rattle.wf_model.specs.Bits.{bit}
use Rattle.wf_updates.specs.After.{moved}
use Rattle.wf_updates.proofs.after.states_by_flips.Given as goal

abbrev pub invariant-loop-state : goal.invariant-loop-state
invariant-loop-state l = l.ids ≡ moved (take l.state-index l.known) (bit l.inside) (bit l.flipped)
