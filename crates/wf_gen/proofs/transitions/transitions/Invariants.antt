use Rattle.std.proofs.Common.{◌≡◌, ◌*◌}
use Rattle.wf_gen.specs.Draws.{after}
use Rattle.wf_gen.specs.GenChart.{transitions}
use Rattle.wf_gen.proofs.transitions.transitions.Given as goal

abbrev pub invariant-loop-t : goal.invariant-loop-t
invariant-loop-t l = (l.made ≡ transitions l.fn.draws l.t) × (l.draws ≡ after (4 * l.t) l.fn.draws)
