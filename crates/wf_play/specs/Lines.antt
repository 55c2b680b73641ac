-- The lines of a play: what the tokens of a line say.
use Rattle.std.specs.Prelude.{ℕ, ◌==◌, List, [], ◌∷◌, Option, Some, None, if◌then◌else◌}
use Rattle.std.specs.Option.{option_map}
use Rattle.std.specs.Str.{bytes_eq}
use lib.Chars.{codes}
use Rattle.wf_model.specs.Ids.{unit_id}
use Rattle.wf_model.specs.Limits.{max_int}
use Rattle.wf_model.specs.declared.outer.Outer.{Outer}
use Rattle.wf_disk.specs.declared.arm.Outcome.{Outcome}
use Rattle.wf_disk.specs.declared.arm.Outcome.TheVariants.{Keep, Lose, Torn}
use Rattle.wf_disk.specs.declared.arm.Arm.{Arm}
use Rattle.wf_disk.specs.declared.arm.Arm.TheVariants as arms
use Rattle.wf_lex.specs.declared.token.Token.{Token}
use Rattle.wf_scripts.specs.Names.{Finder}
use Rattle.wf_scripts.specs.Values.{text_at, int_at}
use Rattle.wf_scripts.specs.Outers.{outer_of}
use Rattle.wf_machine.specs.declared.line.Line.{Line}
use Rattle.wf_machine.specs.declared.line.Line.TheVariants as lines

-- WORDS AND NUMBERS

-- keep | lose | torn
abbrev pub outcome_named : List ℕ → Option Outcome
outcome_named word =
    if bytes_eq word (codes "keep") then Some Keep
    else (if bytes_eq word (codes "lose") then Some Lose else (if bytes_eq word (codes "torn") then Some Torn else None))

abbrev pub positive_count : Option ℕ → Option ℕ
positive_count None = None
positive_count (Some n) = if n == 0 then None else Some n

-- INT, from 1 to this
abbrev pub count_at : ℕ → List ℕ → Token → Option ℕ
count_at most line token = positive_count (int_at most line token)

-- how many strokes ahead an arm may be set
abbrev pub max_stroke : ℕ
max_stroke = 1000

-- LINES OF ONE AND TWO WORDS

-- round
abbrev pub command : List ℕ → Option Line
command word = if bytes_eq word (codes "round") then Some lines.Round else None

-- turn U | recover U | show U | items U
abbrev pub unit_line : List ℕ → Option ℕ → Option Line
unit_line word None = None
unit_line word (Some u) =
    if bytes_eq word (codes "turn") then Some (lines.Turn (unit_id u))
    else (if bytes_eq word (codes "recover") then Some (lines.Recover (unit_id u))
    else (if bytes_eq word (codes "show") then Some (lines.Show (unit_id u))
    else (if bytes_eq word (codes "items") then Some (lines.Items (unit_id u)) else None)))

-- deliver M, with M from 1 on; or a line of a unit
abbrev pub two_words : Finder → List ℕ → (word other : Token) → Option Line
two_words names line word other =
    if bytes_eq (text_at line word) (codes "deliver") then option_map (λ m. lines.Deliver m) (count_at 4294967295 line other)
    else unit_line (text_at line word) (names.unit (text_at line other))

-- LINES OF THREE WORDS

-- from one unit to another, where there are both
abbrev pub send_line : Option ℕ → Option ℕ → Option Line
send_line None to = None
send_line (Some u) None = None
send_line (Some u) (Some v) = if u == v then None else Some (lines.Send (unit_id u) (unit_id v))

abbrev pub crash_line : Option ℕ → Option Outcome → Option Line
crash_line None outcome = None
crash_line (Some u) None = None
crash_line (Some u) (Some outcome) = Some (lines.Crash (unit_id u) outcome)

-- send U V | crash U OUTCOME
abbrev pub three_words : Finder → List ℕ → (word unit other : Token) → Option Line
three_words names line word unit other =
    if bytes_eq (text_at line word) (codes "send") then send_line (names.unit (text_at line unit)) (names.unit (text_at line other))
    else (if bytes_eq (text_at line word) (codes "crash")
    then crash_line (names.unit (text_at line unit)) (outcome_named (text_at line other))
    else None)

-- LONGER LINES

abbrev pub admit_line : Option ℕ → Option ℕ → Option Outer → Option Line
admit_line None request outer = None
admit_line (Some u) None outer = None
admit_line (Some u) (Some request) None = None
admit_line (Some u) (Some request) (Some outer) = Some (lines.Admit (unit_id u) request outer)

-- fail | crash OUTCOME
abbrev pub arm_of : List ℕ → (kind : List ℕ) → List Token → Option Arm
arm_of line kind [] = if bytes_eq kind (codes "fail") then Some arms.Fail else None
arm_of line kind (outcome ∷ []) =
    if bytes_eq kind (codes "crash") then option_map (λ o. arms.Crash o) (outcome_named (text_at line outcome)) else None
arm_of line kind (outcome ∷ other ∷ more) = None

abbrev pub arm_line : Option ℕ → Option ℕ → Option Arm → Option Line
arm_line None stroke what = None
arm_line (Some u) None what = None
arm_line (Some u) (Some stroke) None = None
arm_line (Some u) (Some stroke) (Some what) = Some (lines.Arm (unit_id u) stroke what)

-- admit U R OUTER | arm U N ARM
abbrev pub more_words : Finder → List ℕ → (word unit number kind : Token) → List Token → Option Line
more_words names line word unit number kind tokens =
    if bytes_eq (text_at line word) (codes "admit")
    then admit_line (names.unit (text_at line unit)) (int_at max_int line number) (outer_of names line (text_at line kind) tokens)
    else (if bytes_eq (text_at line word) (codes "arm")
    then arm_line (names.unit (text_at line unit)) (count_at max_stroke line number) (arm_of line (text_at line kind) tokens)
    else None)

-- ALL LINES

-- what a line of these tokens says, if it is in the grammar; no token says nothing
unfoldable pub said_by : Finder → List ℕ → List Token → Option (Option Line)
said_by names line [] = Some None
said_by names line (word ∷ []) = option_map Some (command (text_at line word))
said_by names line (word ∷ other ∷ []) = option_map Some (two_words names line word other)
said_by names line (word ∷ unit ∷ other ∷ []) = option_map Some (three_words names line word unit other)
said_by names line (word ∷ unit ∷ number ∷ kind ∷ tokens) = option_map Some (more_words names line word unit number kind tokens)
