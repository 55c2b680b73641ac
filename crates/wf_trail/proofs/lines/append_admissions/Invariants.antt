use Rattle.std.proofs.Common.{◌≡◌, ◌++◌, ◌+◌, drop}
use Rattle.wf_trail.specs.Lines.{admission_lines}
use Rattle.wf_trail.proofs.lines.append_admissions.Given as goal

abbrev pub invariant-loop-at : goal.invariant-loop-at
invariant-loop-at l = l.text ++ admission_lines l.chart (l.before + l.at + 1) (drop l.at l.admissions) ≡ l.fn.text ++ admission_lines l.chart (l.before + 1) l.admissions
