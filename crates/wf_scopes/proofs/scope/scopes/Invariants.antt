use Rattle.std.proofs.Common.{◌≡◌, map}
use Rattle.std.specs.List.{range_with_len}
use Rattle.wf_model.specs.Tree.{scope}
use Rattle.wf_model.specs.Ids.{state_id}
use Rattle.wf_scopes.proofs.scope.scopes.Given as goal

abbrev pub invariant-loop-transition : goal.invariant-loop-transition
invariant-loop-transition l = l.table ≡ map (λ t. state_id (scope l.chart t)) (range_with_len 0 l.transition-index)
