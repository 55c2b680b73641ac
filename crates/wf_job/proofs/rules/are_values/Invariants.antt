use Rattle.std.proofs.Common.{◌≡◌, drop}
use Rattle.wf_semantics.specs.Admission.{are_values}
use Rattle.wf_job.proofs.rules.are_values.Given as goal

abbrev pub invariant-loop-var : goal.invariant-loop-var
invariant-loop-var l = are_values l.chart (drop l.var-index l.vars) l.rest ≡ are_values l.chart l.vars l.outputs
