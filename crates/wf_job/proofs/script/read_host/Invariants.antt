use Rattle.std.proofs.Common.{◌≡◌, ◌≤◌, ◌+◌, length}
use Rattle.wf_scripts.specs.Lines.{lines_of}
use Rattle.wf_scripts.specs.Finders.{finder_of}
use Rattle.wf_job.specs.Drafts.{blank}
use Rattle.wf_job.specs.Script.{job_from}
use Rattle.wf_job.proofs.script.read_host.Given as goal

abbrev pub invariant-loop-rest : goal.invariant-loop-rest
invariant-loop-rest l = record {
  read : job_from l.checked (finder_of l.names) (l.number + 1) l.draft (lines_of l.rest) ≡ job_from l.checked (finder_of l.names) 1 blank (lines_of l.script);
  few : l.number + length l.rest ≤ length l.script;
}

abbrev pub decreases-loop-rest : goal.decreases-loop-rest
decreases-loop-rest l = length l.rest
