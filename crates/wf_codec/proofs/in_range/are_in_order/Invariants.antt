use Rattle.std.proofs.Common.{◌≡◌, ◌-◌, drop}
use Rattle.wf_codec.specs.Deciding.{are_in_order}
use Rattle.wf_codec.proofs.in_range.are_in_order.Given as goal

abbrev pub invariant-loop-at : goal.invariant-loop-at
invariant-loop-at g l = are_in_order g.T.Ordered.before (drop (l.at - 1) l.items) ≡ are_in_order g.T.Ordered.before l.items
