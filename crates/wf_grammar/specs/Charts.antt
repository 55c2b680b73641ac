-- Of the laws. The grammar of charts: chart = chart NAME ; { decl } [ state ] { trans }
use Rattle.std.specs.Prelude.{◌≤◌, List, ◌∷◌, ◌++◌, length}
use Rattle.wf_model.specs.Limits.{max_name}
use Rattle.wf_model.specs.declared.chart.Transition.{Transition}
use Rattle.wf_model.specs.declared.chart.Chart.{Chart}
use Rattle.wf_cursor.specs.declared.piece.Piece.TheVariants as pieces
use Rattle.wf_grammar.specs.Lexemes.{Lexeme}
use Rattle.wf_grammar.specs.Phrases.{Is}
use Rattle.wf_grammar.specs.Scopes.{Scope, first_scope}
use Rattle.wf_grammar.specs.Declaring.{Declarations}
use Rattle.wf_grammar.specs.Drawing.{Root}
use Rattle.wf_grammar.specs.Moving.{Transitions}

-- the lexemes are a text of this chart
pub data IsChart : List Lexeme → Chart → Type 0 where
  is_chart : {ds ss ts : List Lexeme} (word n ends : Lexeme) (s s' : Scope) (found : List Transition)
      → Is pieces.Chart word → Is pieces.Name n → length n.bytes ≤ max_name → Is pieces.Semicolon ends
      → Declarations first_scope ds s → Root s ss s' → Transitions s'.names ts found
      → IsChart (word ∷ n ∷ ends ∷ (ds ++ (ss ++ ts))) (record {
        name = n.bytes;
        units = s'.units;
        events = s'.events;
        vars = s'.vars;
        acts = s'.acts;
        states = s'.states;
        transitions = found;
      })
