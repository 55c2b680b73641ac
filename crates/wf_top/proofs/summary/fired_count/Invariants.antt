use Rattle.std.proofs.Common.{◌≡◌, ◌+◌, length, drop}
use Rattle.wf_semantics.specs.Run.{first_state}
use Rattle.wf_runs.specs.Runs.{IsRunFrom}
use Rattle.wf_central.specs.Kept.{central_of, IsOf}
use Rattle.wf_top.specs.Summaries.{fired_along}
use Rattle.wf_top.proofs.summary.fired_count.Given as goal

abbrev pub invariant-loop-entries : goal.invariant-loop-entries
invariant-loop-entries l = record {
  count : length l.fired + length (fired_along l.checked (central_of l.checked l.state) (drop l.entries-index l.steps)) ≡ length (fired_along l.checked (first_state l.checked) l.steps);
  run : IsRunFrom l.checked (central_of l.checked l.state) (drop l.entries-index l.steps);
  of : IsOf l.checked l.state;
  taken : l.state.taken ≡ l.entries-index;
}
