use Rattle.std.proofs.Common.{◌≡◌, drop}
use Rattle.std.specs.List.{list_all}
use Rattle.wf_readback.specs.Held.{is_held_transition}
use Rattle.wf_readback.proofs.held.transitions_are_held.Given as goal

abbrev pub invariant-loop-transition : goal.invariant-loop-transition
invariant-loop-transition l = list_all is_held_transition l.transitions ≡ list_all is_held_transition (drop l.transition-index l.transitions)
