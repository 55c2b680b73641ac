use Rattle.std.proofs.Common.{◌≡◌, map}
use Rattle.std.specs.List.{range_with_len}
use Rattle.wf_semantics.specs.Admission.{is_act_at}
use Rattle.wf_partition.proofs.holding.acts_at.Given as goal

abbrev pub invariant-loop-act : goal.invariant-loop-act
invariant-loop-act l = l.bits ≡ map (is_act_at l.chart l.unit.0) (range_with_len 0 l.act-index)
