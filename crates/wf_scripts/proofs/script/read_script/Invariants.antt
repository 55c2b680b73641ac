use Rattle.std.proofs.Common.{◌≡◌, ◌≤◌, ◌+◌, length}
use Rattle.wf_scripts.specs.Lines.{lines_of}
use Rattle.wf_scripts.specs.Finders.{finder_of}
use Rattle.wf_scripts.specs.Script.{lines_from}
use Rattle.wf_scripts.proofs.Read.{with_read}
use Rattle.wf_scripts.proofs.script.read_script.Given as goal

abbrev pub invariant-loop-rest : goal.invariant-loop-rest
invariant-loop-rest g l = record {
  read : with_read l.lines (lines_from g.G.Grammar.says (finder_of l.names) (l.number + 1) (lines_of l.rest)) ≡ lines_from g.G.Grammar.says (finder_of l.names) 1 (lines_of l.script);
  few : l.number + length l.rest ≤ length l.script;
}

abbrev pub decreases-loop-rest : goal.decreases-loop-rest
decreases-loop-rest g l = length l.rest
