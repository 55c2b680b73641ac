use Rattle.std.proofs.Common.{◌≡◌, ◌==◌, flat_map, filter}
use Rattle.std.specs.List.{range_with_len}
use Rattle.wf_central.proofs.run.in_unit_order.Given as goal

abbrev pub invariant-loop-unit : goal.invariant-loop-unit
invariant-loop-unit l = l.ordered ≡ flat_map (λ u. filter (λ x. x.unit.0 == u) l.entries) (range_with_len 0 l.unit)
