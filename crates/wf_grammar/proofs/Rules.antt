-- What the rules of charts read, one by one: the steps of the laws on charts.
use Rattle.std.proofs.Common.{◌≡◌, ◌≢◌, ℕ, List, ◌++◌, Option, Some, Ok}
use Rattle.wf_model.specs.declared.chart.Transition.{Transition}
use Rattle.wf_cursor.specs.declared.piece.Piece.{Piece}
use Rattle.wf_cursor.specs.declared.piece.Piece.TheVariants as pieces
use Rattle.wf_cursor.specs.Input.{Input, Outcome}
use Rattle.wf_text.specs.Declarations.{declarations}
use Rattle.wf_text.specs.States.{root}
use Rattle.wf_text.specs.Transitions.{transitions}
use Rattle.wf_grammar.specs.Lexemes.{Lexeme, lexemes}
use Rattle.wf_grammar.specs.Laws.{first_piece}
use Rattle.wf_grammar.specs.Scopes.{Scope, scope_of}
use Rattle.wf_grammar.specs.Declaring.{Declarations}
use Rattle.wf_grammar.specs.Drawing.{Root}
use Rattle.wf_grammar.specs.Moving.{Transitions}

-- the declarations that are read are a front part of the lexemes
abbrev pub DeclarationsReadAreSpelled : Type 0
DeclarationsReadAreSpelled =
    (i j : Input) → declarations i ≡ Ok (tt, j) →
    (ws : List Lexeme) × Declarations (scope_of i) ws (scope_of j) × (lexemes i ≡ ws ++ lexemes j) × (j.text ≡ i.text)

-- so is the root that is read, if there is one
abbrev pub RootReadIsSpelled : Type 0
RootReadIsSpelled =
    (i j : Input) → root i ≡ Ok (tt, j) →
    (ws : List Lexeme) × Root (scope_of i) ws (scope_of j) × (lexemes i ≡ ws ++ lexemes j) × (j.text ≡ i.text)

-- and so are the transitions that are read
abbrev pub TransitionsReadAreSpelled : Type 0
TransitionsReadAreSpelled =
    (i j : Input) (found : List Transition) → transitions i ≡ Ok (found, j) →
    (ws : List Lexeme) × Transitions i.names ws found × (lexemes i ≡ ws ++ lexemes j) × (scope_of j ≡ scope_of i) × (j.text ≡ i.text)

-- ---- and the other way round

-- no declaration begins with this
abbrev pub BeginsNoDeclaration : Option Piece → Type 0
BeginsNoDeclaration p = (p ≢ Some pieces.Unit) × (p ≢ Some pieces.Event) × (p ≢ Some pieces.Var) × (p ≢ Some pieces.Activity)

-- no state begins with this
abbrev pub BeginsNoState : Option Piece → Type 0
BeginsNoState p = (p ≢ Some pieces.Basic) × (p ≢ Some pieces.Or) × (p ≢ Some pieces.And)

-- a rule answers this value, and then this is declared and these lexemes are left
pub record EndsWith {A : Type 0} (r : Outcome A) (x : A) (text : List ℕ) (s : Scope) (more : List Lexeme) : Type 0 where
  pub end : Input
  pub is_read : r ≡ Ok (x, end)
  pub same_text : end.text ≡ text
  pub declares : scope_of end ≡ s
  pub left : lexemes end ≡ more

-- declarations at the front of the lexemes are read, where none follows
abbrev pub DeclarationsSpelledAreRead : Type 0
DeclarationsSpelledAreRead =
    (i : Input) (s : Scope) (ws more : List Lexeme) → Declarations (scope_of i) ws s → lexemes i ≡ ws ++ more → BeginsNoDeclaration (first_piece more) →
    EndsWith (declarations i) tt i.text s more

-- so is a root, or none, where no state follows
abbrev pub RootSpelledIsRead : Type 0
RootSpelledIsRead =
    (i : Input) (s : Scope) (ws more : List Lexeme) → Root (scope_of i) ws s → lexemes i ≡ ws ++ more → BeginsNoState (first_piece more) →
    EndsWith (root i) tt i.text s more

-- and so are transitions, where none follows
abbrev pub TransitionsSpelledAreRead : Type 0
TransitionsSpelledAreRead =
    (i : Input) (found : List Transition) (ws more : List Lexeme) → Transitions i.names ws found → lexemes i ≡ ws ++ more → first_piece more ≢ Some pieces.From →
    EndsWith (transitions i) found i.text (scope_of i) more
