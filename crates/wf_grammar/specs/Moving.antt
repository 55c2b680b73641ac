-- Of the laws. The grammar of transitions, a constructor for each alternative of a line.
use Rattle.std.specs.Prelude.{◌≤◌, List, [], ◌∷◌, ◌++◌, Option, Some, None}
use Rattle.wf_model.specs.Limits.{max_nodes, max_open}
use Rattle.wf_model.specs.declared.ids.EventId.{EventId}
use Rattle.wf_model.specs.declared.ids.VarId.{VarId}
use Rattle.wf_model.specs.declared.ids.ActId.{ActId}
use Rattle.wf_model.specs.declared.ids.StateId.{StateId}
use Rattle.wf_model.specs.declared.chart.Action.{Action}
use Rattle.wf_model.specs.declared.chart.Action.TheVariants as act
use Rattle.wf_model.specs.declared.chart.Transition.{Transition}
use Rattle.wf_model.specs.declared.expr.Expr.{Expr}
use Rattle.wf_model.specs.Accepted.{nodes}
use Rattle.wf_cursor.specs.declared.names.Declared.TheVariants as declared_as_a
use Rattle.wf_cursor.specs.declared.piece.Piece.TheVariants as pieces
use Rattle.wf_grammar.specs.Lexemes.{Lexeme}
use Rattle.wf_grammar.specs.Phrases.{Names, Rank, Is, IsNameOf, Spells}

-- the lexemes spell the expression, within the limits
pub record SpellsWhole (names : Names) (ws : List Lexeme) (x : Expr) : Type 0 where
  pub spelled : Spells names max_open Rank.expr ws x
  pub few : nodes x ≤ max_nodes

-- [ on EVENT ]
pub data OnEvent (names : Names) : List Lexeme → Option EventId → Type 0 where
  no_event : OnEvent names [] None
  on_event : (w n : Lexeme) (e : EventId) → Is pieces.On w → IsNameOf names (declared_as_a.Event e) n → OnEvent names (w ∷ n ∷ []) (Some e)

-- [ if expr ]
pub data IfGuard (names : Names) : List Lexeme → Option Expr → Type 0 where
  no_guard : IfGuard names [] None
  if_guard : {xs : List Lexeme} {x : Expr} (w : Lexeme) → Is pieces.If w → SpellsWhole names xs x → IfGuard names (w ∷ xs) (Some x)

-- action = VAR := expr | raise EVENT | start ACTIVITY
pub data Acts (names : Names) : List Lexeme → Action → Type 0 where
  assigns : {xs : List Lexeme} {value : Expr} (n becomes : Lexeme) (x : VarId)
      → IsNameOf names (declared_as_a.Var x) n → Is pieces.Assign becomes → SpellsWhole names xs value
      → Acts names (n ∷ becomes ∷ xs) (act.Assign x value)
  raises : (w n : Lexeme) (e : EventId) → Is pieces.Raise w → IsNameOf names (declared_as_a.Event e) n → Acts names (w ∷ n ∷ []) (act.Raise e)
  starts : (w n : Lexeme) (a : ActId) → Is pieces.Start w → IsNameOf names (declared_as_a.Activity a) n → Acts names (w ∷ n ∷ []) (act.Start a)

-- action { , action }
pub data Actions (names : Names) : List Lexeme → List Action → Type 0 where
  one_action : {us : List Lexeme} {a : Action} → Acts names us a → Actions names us (a ∷ [])
  more_actions : {us vs : List Lexeme} {a : Action} {as_well : List Action} (comma : Lexeme)
      → Acts names us a → Is pieces.Comma comma → Actions names vs as_well
      → Actions names (us ++ comma ∷ vs) (a ∷ as_well)

-- [ do action { , action } ]
pub data DoActions (names : Names) : List Lexeme → List Action → Type 0 where
  no_action : DoActions names [] []
  do_actions : {ws : List Lexeme} {found : List Action} (w : Lexeme) → Is pieces.Do w → Actions names ws found → DoActions names (w ∷ ws) found

-- trans = from STATE to STATE [ on EVENT ] [ if expr ] [ do action { , action } ] ;
pub data Moves (names : Names) : List Lexeme → Transition → Type 0 where
  moves : {es gs ds : List Lexeme} (from_word from_name to_word to_name ends : Lexeme)
      (source target : StateId) (event : Option EventId) (guard : Option Expr) (actions : List Action)
      → Is pieces.From from_word → IsNameOf names (declared_as_a.State source) from_name
      → Is pieces.To to_word → IsNameOf names (declared_as_a.State target) to_name
      → OnEvent names es event → IfGuard names gs guard → DoActions names ds actions → Is pieces.Semicolon ends
      → Moves names (from_word ∷ from_name ∷ to_word ∷ to_name ∷ (es ++ (gs ++ (ds ++ ends ∷ []))))
      (record { source = source; target = target; event = event; guard = guard; actions = actions })

-- { trans }
pub data Transitions (names : Names) : List Lexeme → List Transition → Type 0 where
  no_transition : Transitions names [] []
  more_transitions : {us vs : List Lexeme} {t : Transition} {ts : List Transition} → Moves names us t → Transitions names vs ts
      → Transitions names (us ++ vs) (t ∷ ts)
