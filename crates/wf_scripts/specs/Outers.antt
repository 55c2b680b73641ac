-- The outers of a script: an event, or an item that is done, with the values that it gives.
use Rattle.std.specs.Prelude.{◌≡◌, ℕ, Bool, true, false, not, ◌++◌, take_while, List, [], ◌∷◌, Option, Some, None, if◌then◌else◌}
use Rattle.std.specs.Option.{option_map}
use Rattle.std.specs.Str.{bytes_eq}
use lib.Chars.{codes}
use Rattle.wf_model.specs.declared.value.Val.{Val}
use Rattle.wf_model.specs.declared.outer.Output.{Output}
use Rattle.wf_model.specs.declared.outer.Outer.{Outer}
use Rattle.wf_model.specs.declared.outer.Outer.TheVariants.{Happen, Complete}
use Rattle.wf_lex.specs.declared.token.Token.{Token}
use Rattle.wf_scripts.specs.Names.{Finder}
use Rattle.wf_scripts.specs.Values.{text_at, int_at, value_of}

-- GIVES

-- a value for a variable, where there are both
abbrev pub given : Option ℕ → Option Val → Option Output
given None value = None
given (Some x) None = None
given (Some x) (Some value) = Some (record { var = record { 0 = x }; val = value })

-- x = value
unfoldable pub output_of : Finder → List ℕ → List Token → Option Output
output_of names line [] = None
output_of names line (x ∷ []) = None
output_of names line (x ∷ equals ∷ value) =
    if bytes_eq (text_at line equals) (codes "=") then given (names.var (text_at line x)) (value_of line value) else None

abbrev pub is_comma : List ℕ → Token → Bool
is_comma line t = bytes_eq (text_at line t) (codes ",")

-- the tokens before the first comma
abbrev pub first_group : List ℕ → List Token → List Token
first_group line tokens = take_while (λ t. not (is_comma line t)) tokens

-- these groups of tokens, where the token stands before the first one
abbrev pub with_token : Token → List (List Token) → List (List Token)
with_token t [] = (t ∷ []) ∷ []
with_token t (group ∷ groups) = (t ∷ group) ∷ groups

-- the tokens before the first comma, those up to the next one, and so on
abbrev pub between_commas : List ℕ → List Token → List (List Token)
between_commas line [] = [] ∷ []
between_commas line (t ∷ tokens) =
    if is_comma line t then [] ∷ between_commas line tokens else with_token t (between_commas line tokens)

-- an output before others, where there are both
abbrev pub with_output : Option Output → Option (List Output) → Option (List Output)
with_output None more = None
with_output (Some output) None = None
with_output (Some output) (Some more) = Some (output ∷ more)

-- an output of each group
abbrev pub each_output : Finder → List ℕ → List (List Token) → Option (List Output)
each_output names line [] = Some []
each_output names line (group ∷ groups) = with_output (output_of names line group) (each_output names line groups)

-- x = value { , x = value }
unfoldable pub outputs_of : Finder → List ℕ → List Token → Option (List Output)
outputs_of names line tokens = each_output names line (between_commas line tokens)

-- the output stands behind the others, if there is one
abbrev pub IsAdded : Option Output → Bool → (before after : List Output) → Type 0
IsAdded None added before after = added ≡ false
IsAdded (Some output) added before after = (added ≡ true) × (after ≡ before ++ output ∷ [])

-- [ gives x = value { , x = value } ]
unfoldable pub gives_of : Finder → List ℕ → List Token → Option (List Output)
gives_of names line [] = Some []
gives_of names line (gives ∷ outputs) = if bytes_eq (text_at line gives) (codes "gives") then outputs_of names line outputs else None

-- OUTERS

-- an item of an activity is done and gives this, where there are all three
abbrev pub completion : Option ℕ → Option ℕ → Option (List Output) → Option Outer
completion None item outputs = None
completion (Some act) None outputs = None
completion (Some act) (Some item) None = None
completion (Some act) (Some item) (Some outputs) = Some (Complete item (record { 0 = act }) outputs)

-- A N [ gives x = value { , x = value } ]
unfoldable pub done_of : Finder → List ℕ → List Token → Option Outer
done_of names line [] = None
done_of names line (act ∷ []) = None
done_of names line (act ∷ item ∷ gives) = completion (names.act (text_at line act)) (int_at 4294967295 line item) (gives_of names line gives)

-- E
abbrev pub event_of : Finder → List ℕ → List Token → Option Outer
event_of names line [] = None
event_of names line (event ∷ []) = option_map (λ e. Happen (record { 0 = e })) (names.event (text_at line event))
event_of names line (event ∷ other ∷ more) = None

-- event E, or done A N [ gives x = value { , x = value } ]
unfoldable pub outer_of : Finder → List ℕ → (kind : List ℕ) → List Token → Option Outer
outer_of names line kind tokens =
    if bytes_eq kind (codes "event") then event_of names line tokens
    else (if bytes_eq kind (codes "done") then done_of names line tokens else None)
