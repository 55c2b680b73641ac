use Rattle.std.proofs.Common.{◌≡◌, ◌++◌, map}
use Rattle.std.specs.List.{range_with_len}
use Rattle.wf_gen.specs.GenChart.{basic_state}
use Rattle.wf_gen.proofs.states.append_basics.Given as goal

abbrev pub invariant-loop-j : goal.invariant-loop-j
invariant-loop-j l = l.states ≡ l.fn.states ++ map (basic_state l.r) (range_with_len 0 l.j)
