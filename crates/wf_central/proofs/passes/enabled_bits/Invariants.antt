use Rattle.std.proofs.Common.{◌≡◌, map}
use Rattle.std.specs.List.{range_with_len}
use Rattle.wf_semantics.specs.Snapshot.{is_enabled}
use Rattle.wf_central.specs.Sight.{seeing}
use Rattle.wf_model.specs.Bits.{bit}
use Rattle.wf_central.specs.Made.{seen_of}
use Rattle.wf_central.proofs.passes.enabled_bits.Given as goal

abbrev pub invariant-loop-transition : goal.invariant-loop-transition
invariant-loop-transition l = l.bits ≡ map (is_enabled l.chart (seeing (seen_of l.snap) (bit l.there))) (range_with_len 0 l.transition-index)
