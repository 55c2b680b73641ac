-- Of the laws. What a script's definition never answers.
use Rattle.std.specs.Prelude.{◌≢◌, ℕ, List, Err}
use Rattle.wf_model.specs.declared.chart.Chart.{Chart}
use Rattle.wf_scripts.specs.declared.script.ScriptFault.TheVariants.{NoMemory}
use Rattle.wf_scripts.specs.Script.{Says, script_by}

-- a script has its lines, or a first line that is refused, and never no memory, which the code alone may answer
abbrev pub HaveMemory : {L : Type 0} → Says L → Type 0
HaveMemory says = (chart : Chart) (script : List ℕ) → script_by says chart script ≢ Err NoMemory
