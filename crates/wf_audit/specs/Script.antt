-- A script of the central run: what its lines say, or its first line outside the grammar.
use Rattle.std.specs.Prelude.{ℕ, List, [], ◌∷◌, Option, Some, None, Result, if◌then◌else◌}
use Rattle.std.specs.Option.{option_map}
use Rattle.std.specs.Str.{bytes_eq}
use lib.Chars.{codes}
use Rattle.wf_model.specs.declared.chart.Chart.{Chart}
use Rattle.wf_model.specs.declared.outer.Outer.{Outer}
use Rattle.wf_lex.specs.declared.token.Token.{Token}
use Rattle.wf_audit.specs.declared.script.CentralLine.{CentralLine}
use Rattle.wf_audit.specs.declared.script.CentralLine.TheVariants as lines
use Rattle.wf_scripts.specs.declared.script.ScriptFault.{ScriptFault}
use Rattle.wf_scripts.specs.Names.{Finder}
use Rattle.wf_scripts.specs.Values.{text_at}
use Rattle.wf_scripts.specs.Outers.{outer_of}
use Rattle.wf_scripts.specs.Script.{script_by}

-- an outer comes to a unit, where there are both
abbrev pub coming_to : Option ℕ → Option Outer → Option CentralLine
coming_to None outer = None
coming_to (Some unit) None = None
coming_to (Some unit) (Some outer) = Some (lines.Outer (record { 0 = unit }) outer)

-- step | show
abbrev pub command : List ℕ → Option CentralLine
command word = if bytes_eq word (codes "step") then Some lines.Step else (if bytes_eq word (codes "show") then Some lines.Show else None)

-- outer U event E, or outer U done A N [ gives x = value { , x = value } ]
abbrev pub outer_line : Finder → List ℕ → (first unit kind : Token) → List Token → Option CentralLine
outer_line names line first unit kind tokens =
    if bytes_eq (text_at line first) (codes "outer")
    then coming_to (names.unit (text_at line unit)) (outer_of names line (text_at line kind) tokens)
    else None

-- what a line of these tokens says, if it is in the grammar; no token says nothing
unfoldable pub said_by : Finder → List ℕ → List Token → Option (Option CentralLine)
said_by names line [] = Some None
said_by names line (word ∷ []) = option_map Some (command (text_at line word))
said_by names line (first ∷ unit ∷ []) = None
said_by names line (first ∷ unit ∷ kind ∷ tokens) = option_map Some (outer_line names line first unit kind tokens)

-- the lines of the script that say something, each with its number counted from 1; or the first line outside the grammar
unfoldable pub script_of : Chart → List ℕ → Result (List (ℕ × CentralLine)) ScriptFault
script_of chart script = script_by said_by chart script
