use Rattle.std.proofs.Common.{◌≡◌, ◌&&◌, find, drop}
use Rattle.wf_model.specs.declared.ids.StateId.{StateId}
use Rattle.wf_model.specs.Tree.{kind, is_or, is_above}
use Rattle.wf_scopes.proofs.scope.first_spanning.Given as goal

abbrev pub invariant-loop-a : goal.invariant-loop-a
invariant-loop-a l =
    find (λ (a : StateId). is_or (kind l.chart a.0) && is_above l.chart a.0 l.target.0) (drop l.a-index l.ids)
    ≡ find (λ (a : StateId). is_or (kind l.chart a.0) && is_above l.chart a.0 l.target.0) l.ids
