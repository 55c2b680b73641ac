use Rattle.std.proofs.Common.{◌≡◌, ◌++◌, drop, flat_map}
use Rattle.wf_partition.specs.SplitText.{guard_line}
use Rattle.wf_partition.proofs.split.append_guards.Given as goal

abbrev pub invariant-loop-transition : goal.invariant-loop-transition
invariant-loop-transition l = l.text ++ flat_map guard_line (drop l.transition-index l.transitions) ≡ l.fn.text ++ flat_map guard_line l.transitions
