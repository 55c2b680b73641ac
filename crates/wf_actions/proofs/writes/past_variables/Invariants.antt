use Rattle.std.proofs.Common.{◌≡◌, take}
use Rattle.wf_actions.specs.Writes.{past_variables}
use Rattle.wf_actions.proofs.writes.past_variables.Given as goal

abbrev pub invariant-loop-write : goal.invariant-loop-write
invariant-loop-write l = l.past ≡ past_variables (take l.write-index l.writes)
