use Rattle.std.proofs.Common.{◌≡◌, map, filter}
use Rattle.std.specs.List.{range_with_len}
use Rattle.wf_semantics.specs.Flat.{blocks}
use Rattle.wf_ortho.proofs.components.blockers.Given as goal
use Rattle.wf_model.specs.Ids.{trans_id}

abbrev pub invariant-loop-b : goal.invariant-loop-b
invariant-loop-b l = l.ids ≡ map trans_id (filter (λ b. blocks l.chart b l.t.0) (range_with_len 0 l.b))
