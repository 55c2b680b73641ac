-- What a script of the central run comes to: no more lines than the script has, and no want of memory.
use Rattle.std.proofs.Common.{◌≡◌, ◌≤◌, ℕ, List, length, Ok}
use Rattle.wf_model.specs.declared.chart.Chart.{Chart}
use Rattle.wf_audit.specs.declared.script.CentralLine.{CentralLine}
use Rattle.wf_audit.specs.Script.{said_by, script_of}
use Rattle.wf_scripts.specs.Lines.{lines_of}
use Rattle.wf_scripts.proofs.Counted as counted

pub script_named : (chart : Chart) (script : List ℕ) → counted.IsNamed (script_of chart script)
unfolding script_of
script_named chart script = counted.script_named said_by chart script

pub script_short : (chart : Chart) (script : List ℕ) (lines : List (ℕ × CentralLine)) → script_of chart script ≡ Ok lines → length lines ≤ length (lines_of script)
unfolding script_of
script_short chart script lines is = counted.script_short said_by chart script lines is
