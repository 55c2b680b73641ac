use Rattle.std.proofs.Common.{◌≡◌, ◌≤◌, map, length}
use Rattle.wf_model.specs.Tree.{all_states}
use Rattle.wf_central.proofs.Choosing.{chosen_from}
use Rattle.wf_central.proofs.passes.choice_table.Given as goal

abbrev pub invariant-loop-t : goal.invariant-loop-t
invariant-loop-t l = record {
  within : l.t ≤ length l.chart.transitions;
  rest : l.table ≡ map (chosen_from l.chart l.ready l.t) (all_states l.chart);
}

abbrev pub decreases-loop-t : goal.decreases-loop-t
decreases-loop-t l = l.t
