-- The whole text of a chart: its pieces are those of the grammar, and each fault stands where they say.
use Rattle.std.proofs.Common.{◌≡◌, ℕ, nat_lt, Bool, true, false, if◌then◌else◌, List, [], ◌∷◌, ◌++◌, length, map, Option, Some, None, refl, sym, ◌∙◌, ap, subst, append-nil}
use Rattle.wf_model.specs.declared.chart.Transition.{Transition as Move}
use Rattle.wf_lex.specs.declared.token.Token.{Token}
use Rattle.wf_cursor.specs.declared.piece.Piece.{Piece}
use Rattle.wf_cursor.specs.declared.piece.Piece.TheVariants as pieces
use Rattle.wf_cursor.specs.Input as input
use Rattle.wf_cursor.specs.Input.{Input, Outcome, Parser, and_then, ◌>>=◌, ◌>>◌, pure, syntax, expect}
use Rattle.wf_text.specs.Declarations.{declarations}
use Rattle.wf_text.specs.States.{kind_of, root}
use Rattle.wf_text.specs.Transitions.{transitions}
use Rattle.wf_text.specs.Text.{text_end, contents}
use Rattle.wf_grammar.specs.Lexemes.{lexeme_of}
use Rattle.wf_grammar.specs.Drawing.{Part}
use Rattle.wf_grammar.proofs.Reading.{Follow}
use Rattle.wf_viable.specs.Shapes.{Shape, first, One, Maybe, Many, ◌·◌}
use Rattle.wf_viable.specs.Charts.{Declaration, Drawn, Transition, Chart}
use Rattle.wf_viable.proofs.Fits.{pieces_left, Fits, Productive, Joins, recast_all, then_fits}
use Rattle.wf_viable.proofs.Steps.{took_none, stuck_here, then_keeps, expect_fits, name_fits}
use Rattle.wf_viable.proofs.Chains.{Empty}
use Rattle.wf_viable.proofs.Repeats.{some_one, some_then, some_maybe, some_many, Is, IsNot, maybe_joins, many_joins, one_then}
use Rattle.wf_viable.proofs.Declarations.{EndsDeclarations, starts_declaration, declarations_fits}
use Rattle.wf_viable.proofs.Transitions.{transition_begins, transitions_fits}
use Rattle.wf_viable.proofs.States.{StartsState, EndsRoot, state_begins, root_fits}

-- the text ends
abbrev pub AtEnd : Follow
AtEnd q = q ≡ None

some_nothing : Productive Empty
some_nothing = record { pieces = []; shaped = Empty.empty }

text_end_fits : (i : Input) → Fits i Empty AtEnd (text_end i)
text_end_fits i = by_test (nat_lt 0 (length i.left)) refl
  where
    only : (us vs : List Piece) → Empty us → AtEnd (first vs) → first (us ++ vs) ≡ first (pieces_left i) → us ≡ []
    only us vs Empty.empty follows is = refl

    never : nat_lt 0 (length i.left) ≡ true → (us vs : List Piece) → Empty us → AtEnd (first vs) → first (us ++ vs) ≡ first (pieces_left i) → ⊥
    never more us vs Empty.empty follows is = by_left i.left more (sym is ∙ follows)
      where
        by_left : (left : List Token) → nat_lt 0 (length left) ≡ true → first (map (λ t. (lexeme_of i.text t).piece) left) ≡ None → ⊥
        by_left [] h none = cc
        by_left (t ∷ rest) h none = cc

    by_test : (b : Bool) → nat_lt 0 (length i.left) ≡ b → Fits i Empty AtEnd (if b then syntax i else pure (tt {0}) i)
    by_test true h = stuck_here i Empty AtEnd some_nothing (never h)
    by_test false h = took_none i i Empty AtEnd (refl, refl) Empty.empty only

-- ---- what follows what

abbrev State : Shape
State = Drawn Part.state

end_joins : Joins Empty (IsNot pieces.From) AtEnd
end_joins us vs Empty.empty follows h = cc

from_ends_root : (q : Option Piece) → Is pieces.From q → EndsRoot q
from_ends_root q h = ap kind_of h

end_ends_root : (q : Option Piece) → AtEnd q → EndsRoot q
end_ends_root q h = ap kind_of h

transitions_join : Joins (Many Transition) EndsRoot AtEnd
transitions_join = many_joins (Is pieces.From) Transition EndsRoot AtEnd transition_begins from_ends_root end_ends_root

state_ends_declarations : (q : Option Piece) → StartsState q → EndsDeclarations q
state_ends_declarations (Some pieces.Basic) h = refl
state_ends_declarations (Some pieces.Or) h = refl
state_ends_declarations (Some pieces.And) h = refl
state_ends_declarations _ h = absurd (h refl)

root_joins : Joins (Maybe State · Many Transition) EndsDeclarations AtEnd
root_joins = maybe_joins StartsState State (Many Transition) EndsDeclarations AtEnd state_begins state_ends_declarations
    (many_joins (Is pieces.From) Transition EndsDeclarations AtEnd transition_begins (λ q h. ap starts_declaration h) (λ q h. ap starts_declaration h))

-- ---- the whole

abbrev FromRoot : Shape
FromRoot = Maybe State · Many Transition

abbrev FromDeclarations : Shape
FromDeclarations = Many Declaration · FromRoot

some_root : Productive FromRoot
some_root = some_then (Maybe State) (Many Transition) (some_maybe State) (some_many Transition)

some_declarations : Productive FromDeclarations
some_declarations = some_then (Many Declaration) FromRoot (some_many Declaration) some_root

some_end : Productive (One pieces.Semicolon · FromDeclarations)
some_end = some_then (One pieces.Semicolon) FromDeclarations (some_one pieces.Semicolon) some_declarations

some_name : Productive (One pieces.Name · One pieces.Semicolon · FromDeclarations)
some_name = some_then (One pieces.Name) (One pieces.Semicolon · FromDeclarations) (some_one pieces.Name) some_end

-- transitions to the end
to_the_end : (i : Input) (name : List ℕ) → Fits {A = List ℕ × List Move} i (Many Transition) AtEnd ((transitions >>= (λ found. text_end >> pure (name, found))) i)
to_the_end i name =
    recast_all i (Many Transition · Empty) (Many Transition) AtEnd ((transitions >>= (λ found. text_end >> pure (name, found))) i) wider narrower
    (then_fits i (Many Transition) Empty (IsNot pieces.From) AtEnd (transitions i) (λ found. text_end >> pure (name, found)) end_joins some_nothing (transitions_fits i)
    (λ found j got. then_keeps j Empty AtEnd (text_end j) (λ _. pure (name, found)) (text_end_fits j) (λ x k. (refl, refl))))
  where
    wider : (us : List Piece) → (Many Transition · Empty) us → Many Transition us
    wider us both = by_back both.back both.is_back both.whole
      where
        by_back : (b : List Piece) → Empty b → us ≡ both.front ++ b → Many Transition us
        by_back b Empty.empty whole = subst (Many Transition) (sym (whole ∙ append-nil both.front)) both.is_front

    narrower : (us : List Piece) → Many Transition us → (Many Transition · Empty) us
    narrower us shaped = record { front = us; back = []; whole = sym (append-nil us); is_front = shaped; is_back = Empty.empty }

pub contents_fits : (i : Input) → Fits i Chart AtEnd (contents i)
unfolding contents
contents_fits i =
    one_then i pieces.Chart (One pieces.Name · One pieces.Semicolon · FromDeclarations) AtEnd (expect pieces.Chart i) _ some_name (expect_fits i pieces.Chart)
    (λ a j. one_then j pieces.Name (One pieces.Semicolon · FromDeclarations) AtEnd (input.name j) _ some_end (name_fits j)
    (λ name k. one_then k pieces.Semicolon FromDeclarations AtEnd (expect pieces.Semicolon k) _ some_declarations (expect_fits k pieces.Semicolon)
    (λ b l. then_fits l (Many Declaration) FromRoot EndsDeclarations AtEnd (declarations l) _ root_joins some_root (declarations_fits l)
    (λ c m got. then_fits m (Maybe State) (Many Transition) EndsRoot AtEnd (root m) _ transitions_join (some_many Transition) (root_fits m)
    (λ d n got'. to_the_end n name)))))
