use Rattle.std.proofs.Common.{◌≡◌, map, filter}
use Rattle.std.specs.Prelude.{slice_index_or, false}
use Rattle.std.specs.List.{range_with_len}
use Rattle.wf_effects.proofs.raised.events.Given as goal

abbrev pub invariant-loop-e : goal.invariant-loop-e
invariant-loop-e l = l.events ≡ map (λ e. record { 0 = e }) (filter (λ e. slice_index_or l.bits e false) (range_with_len 0 l.e))
