use Rattle.std.proofs.Common.{◌≡◌, ◌==◌, filter}
use Rattle.std.specs.List.{flat_map, range_with_len}
use Rattle.wf_steps.proofs.preparing.in_order.Given as goal

abbrev pub invariant-loop-trans : goal.invariant-loop-trans
invariant-loop-trans l = l.ordered ≡ flat_map (λ t. filter (λ s. s.trans.0 == t) l.starts) (range_with_len 0 l.trans)
