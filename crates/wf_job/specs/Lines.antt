-- Of other calls. The lines of a host's script: what the tokens of a line say.
use Rattle.std.specs.Prelude.{ℕ, List, [], ◌∷◌, Option, Some, None, if◌then◌else◌}
use Rattle.std.specs.Option.{option_map}
use Rattle.std.specs.Str.{bytes_eq}
use lib.Chars.{codes}
use Rattle.wf_model.specs.Ids.{unit_id, event_id}
use Rattle.wf_model.specs.Limits.{max_clients, max_goal, max_workers}
use Rattle.wf_model.specs.declared.outer.Outer.{Outer}
use Rattle.wf_model.specs.declared.outer.Outer.TheVariants.{Happen, Complete}
use Rattle.wf_lex.specs.declared.token.Token.{Token}
use Rattle.wf_scripts.specs.Names.{Finder}
use Rattle.wf_scripts.specs.Values.{text_at}
use Rattle.wf_scripts.specs.Outers.{done_of}
use Rattle.wf_play.specs.Lines.{count_at}
use Rattle.wf_job.specs.declared.lines.HostLine.{HostLine}
use Rattle.wf_job.specs.declared.lines.HostLine.TheVariants as lines

-- goal G, with G from 1 on
abbrev pub goal_line : List ℕ → Option ℕ → Option HostLine
goal_line word None = None
goal_line word (Some goal) = if bytes_eq word (codes "goal") then Some (lines.Goal goal) else None

-- CLIENTS

-- a client brings an event to a unit, where there are all three
abbrev pub bringing : (client unit event : Option ℕ) → Option HostLine
bringing None unit event = None
bringing (Some c) None event = None
bringing (Some c) (Some u) None = None
bringing (Some c) (Some u) (Some e) = Some (lines.Client (record { client = c; unit = unit_id u; event = event_id e }))

-- client C at U event E
abbrev pub client_line : Finder → List ℕ → (number unit kind event : Token) → List Token → Option HostLine
client_line names line number unit kind event [] =
    if bytes_eq (text_at line kind) (codes "event")
    then bringing (count_at max_clients line number) (names.unit (text_at line unit)) (names.event (text_at line event))
    else None
client_line names line number unit kind event (other ∷ more) = None

-- WORKERS

-- a worker is at a unit and does what completes an item so, where there are all three
abbrev pub working : (worker unit : Option ℕ) → Option Outer → Option HostLine
working worker unit None = None
working worker unit (Some (Happen event)) = None
working None unit (Some (Complete item act outputs)) = None
working (Some w) None (Some (Complete item act outputs)) = None
working (Some w) (Some u) (Some (Complete item act outputs)) =
    Some (lines.Worker (record { worker = w; unit = unit_id u; act = act; outputs = outputs }))

-- worker W at U does A [ gives x = value { , x = value } ]; it does what `done A W [ gives .. ]` says
abbrev pub worker_line : Finder → List ℕ → (number unit kind act : Token) → List Token → Option HostLine
worker_line names line number unit kind act gives =
    if bytes_eq (text_at line kind) (codes "does")
    then working (count_at max_workers line number) (names.unit (text_at line unit)) (done_of names line (act ∷ number ∷ gives))
    else None

-- ALL LINES

-- the line of a client or of a worker
abbrev pub longer_line : Finder → List ℕ → (word number unit kind name : Token) → List Token → Option HostLine
longer_line names line word number unit kind name more =
    if bytes_eq (text_at line word) (codes "client") then client_line names line number unit kind name more
    else (if bytes_eq (text_at line word) (codes "worker") then worker_line names line number unit kind name more else None)

-- what a line of these tokens says, if it is in the grammar; no token says nothing
unfoldable pub said_by : Finder → List ℕ → List Token → Option (Option HostLine)
said_by names line [] = Some None
said_by names line (word ∷ []) = None
said_by names line (word ∷ number ∷ []) = option_map Some (goal_line (text_at line word) (count_at max_goal line number))
said_by names line (word ∷ number ∷ at ∷ []) = None
said_by names line (word ∷ number ∷ at ∷ unit ∷ []) = None
said_by names line (word ∷ number ∷ at ∷ unit ∷ kind ∷ []) = None
said_by names line (word ∷ number ∷ at ∷ unit ∷ kind ∷ name ∷ more) =
    if bytes_eq (text_at line at) (codes "at") then option_map Some (longer_line names line word number unit kind name more) else None
