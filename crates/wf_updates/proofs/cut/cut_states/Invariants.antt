use Rattle.std.proofs.Common.{◌≡◌, filter, take}
use Rattle.wf_model.specs.Bits.{bit}
use Rattle.wf_updates.proofs.cut.cut_states.Given as goal

abbrev pub invariant-loop-state : goal.invariant-loop-state
invariant-loop-state l = l.cut ≡ filter (λ s. bit l.known s.0) (take l.state-index l.states)
