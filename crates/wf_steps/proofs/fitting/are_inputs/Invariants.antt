use Rattle.std.proofs.Common.{◌≡◌, drop}
use Rattle.wf_steps.specs.Fitting.{are_inputs_of}
use Rattle.wf_steps.proofs.fitting.are_inputs.Given as goal

abbrev pub invariant-loop-i : goal.invariant-loop-i
invariant-loop-i l = are_inputs_of l.part l.step l.peers l.inputs ≡ are_inputs_of l.part l.step (drop l.i l.peers) (drop l.i l.inputs)
