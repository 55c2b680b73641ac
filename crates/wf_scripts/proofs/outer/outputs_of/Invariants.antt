use Rattle.std.proofs.Common.{◌≡◌, length}
use Rattle.wf_scripts.specs.Finders.{finder_of}
use Rattle.wf_scripts.specs.Outers.{between_commas, each_output}
use Rattle.wf_scripts.proofs.Commas.{with_outputs}
use Rattle.wf_scripts.proofs.outer.outputs_of.Given as goal

abbrev pub invariant-loop-outputs : goal.invariant-loop-outputs
invariant-loop-outputs l =
    with_outputs l.outputs (each_output (finder_of l.names) l.line (between_commas l.line l.rest)) ≡ each_output (finder_of l.names) l.line (between_commas l.line l.tokens)

abbrev pub decreases-loop-outputs : goal.decreases-loop-outputs
decreases-loop-outputs l = length l.rest
