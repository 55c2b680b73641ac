use Rattle.std.proofs.Common.{◌≡◌, map, filter}
use Rattle.std.specs.List.{range_with_len}
use Rattle.wf_parts.specs.Components.{leaves}
use Rattle.wf_ortho.proofs.components.leaving_ids.Given as goal
use Rattle.wf_model.specs.Ids.{trans_id}

abbrev pub invariant-loop-t : goal.invariant-loop-t
invariant-loop-t l = l.ids ≡ map trans_id (filter (λ t. leaves l.chart t l.z.0) (range_with_len 0 l.t))
