use Rattle.std.proofs.Common.{◌≡◌, ◌++◌, drop, flat_map}
use Rattle.wf_job.specs.Reports.{did_line}
use Rattle.wf_job.proofs.report.append_did.Given as goal

abbrev pub invariant-loop-worker : goal.invariant-loop-worker
invariant-loop-worker l = l.text ++ flat_map (did_line l.chart) (drop l.worker-index l.did) ≡ l.fn.text ++ flat_map (did_line l.chart) l.did
