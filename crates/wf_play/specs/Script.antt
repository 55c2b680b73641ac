-- A script of a play, or the first line of it outside the grammar.
use Rattle.std.specs.Prelude.{ℕ, List, Result}
use Rattle.wf_model.specs.declared.chart.Chart.{Chart}
use Rattle.wf_scripts.specs.declared.script.ScriptFault.{ScriptFault}
use Rattle.wf_scripts.specs.Script.{script_by}
use Rattle.wf_machine.specs.declared.line.Line.{Line}
use Rattle.wf_play.specs.Lines.{said_by}

-- the lines of the script that say something, each with its number counted from 1; or the first line outside the grammar
unfoldable pub play_of : Chart → List ℕ → Result (List (ℕ × Line)) ScriptFault
play_of chart script = script_by said_by chart script
