use Rattle.wf_central.specs.Kept.{IsOf}
use Rattle.wf_part_tests.proofs.beside.append_steps.Given as goal

abbrev pub invariant-loop-entries : goal.invariant-loop-entries
invariant-loop-entries l = IsOf l.checked l.sides.state
