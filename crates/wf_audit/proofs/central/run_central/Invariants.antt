use Rattle.std.proofs.Common.{◌≡◌, ◌++◌, ◌≤◌, length, drop}
use Rattle.wf_model.specs.Limits.{max_report}
use Rattle.wf_audit.specs.CentralText.{replies_to}
use Rattle.wf_semantics.specs.Standing.{first_standing}
use Rattle.wf_central.specs.Standings.{standing_of, taken_by, IsRun}
use Rattle.wf_audit.proofs.central.run_central.Given as goal

abbrev pub invariant-loop-number : goal.invariant-loop-number
invariant-loop-number l = record {
  text : l.text ++ replies_to l.checked (standing_of l.checked l.run) (drop l.number-index l.script) ≡ replies_to l.checked (first_standing l.checked) l.script;
  short : length l.text ≤ max_report;
  sound : IsRun l.checked l.run;
  taken : taken_by l.run ≤ l.number-index;
}
