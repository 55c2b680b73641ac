use Rattle.std.proofs.Common.{◌≡◌, ◌*◌, ◌&&◌, nat_lt, map}
use Rattle.std.specs.List.{range_with_len}
use Rattle.wf_model.specs.Bits.{bit}
use Rattle.wf_views.specs.OwnSteps.{is_ready_in}
use Rattle.wf_flat.specs.Sighted.{shown_by}
use Rattle.wf_flat.proofs.firing.enabled_bits.Given as goal

abbrev pub invariant-loop-at : goal.invariant-loop-at
invariant-loop-at g l = l.ready ≡ map (λ j. nat_lt j l.at && bit (map (is_ready_in (shown_by l.sight)) l.transitions) j) (range_with_len 0 (64 * g.row.W))
