-- Of the laws. The grammar of states, a constructor for each alternative of a line.
use Rattle.std.specs.Prelude.{ℕ, suc, List, [], ◌∷◌, ◌++◌, Option, Some, None}
use Rattle.wf_model.specs.Limits.{max_open}
use Rattle.wf_model.specs.declared.ids.UnitId.{UnitId}
use Rattle.wf_model.specs.declared.ids.StateId.{StateId}
use Rattle.wf_model.specs.declared.chart.Kind.{Kind}
use Rattle.wf_model.specs.declared.chart.Kind.TheVariants as kinds
use Rattle.wf_cursor.specs.declared.names.Declared.TheVariants as declared_as_a
use Rattle.wf_cursor.specs.declared.piece.Piece.{Piece}
use Rattle.wf_cursor.specs.declared.piece.Piece.TheVariants as pieces
use Rattle.wf_grammar.specs.Lexemes.{Lexeme}
use Rattle.wf_grammar.specs.Phrases.{Is, IsNameOf}
use Rattle.wf_grammar.specs.Scopes.{Scope, IsNewName, next_state, state_named, with_state}

-- the word of each kind
abbrev pub word_of_kind : Kind → Piece
word_of_kind kinds.Basic = pieces.Basic
word_of_kind kinds.Or = pieces.Or
word_of_kind kinds.And = pieces.And

-- ( basic | or | and ) NAME at UNIT: a state with this parent
pub data Heads (parent : Option StateId) (s : Scope) : List Lexeme → Scope → Type 0 where
  heads : (word n at_word place : Lexeme) (kind : Kind) (u : UnitId)
      → Is (word_of_kind kind) word → IsNewName s n → Is pieces.At at_word → IsNameOf (state_named n s).names (declared_as_a.Unit u) place
      → Heads parent s (word ∷ n ∷ at_word ∷ place ∷ []) (with_state (record { name = n.bytes; kind = kind; parent = parent; unit = u }) (state_named n s))

-- a state, what stands behind its head, or any number of states
pub data Part : Type 0 where
  state body states : Part

-- The lexemes are this part of the tree of states, with at most so many braces open at once, under this parent, from what was
-- declared before it to what is declared behind it.
pub data Draws : ℕ → Part → Option StateId → Scope → List Lexeme → Scope → Type 0 where
  -- state = ( basic | or | and ) NAME at UNIT body
  draws_state : {depth : ℕ} {parent : Option StateId} {s s' s'' : Scope} {hs bs : List Lexeme}
      → Heads parent s hs s' → Draws depth Part.body (Some (next_state s)) s' bs s''
      → Draws depth Part.state parent s (hs ++ bs) s''
  -- body = ; | "{" { state } "}"
  body_ends : {depth : ℕ} {parent : Option StateId} {s : Scope} (ends : Lexeme) → Is pieces.Semicolon ends
      → Draws depth Part.body parent s (ends ∷ []) s
  body_opens : {depth : ℕ} {parent : Option StateId} {s s' : Scope} {ws : List Lexeme} (opens closes : Lexeme)
      → Is pieces.OpenBrace opens → Draws depth Part.states parent s ws s' → Is pieces.CloseBrace closes
      → Draws (suc depth) Part.body parent s (opens ∷ (ws ++ closes ∷ [])) s'
  -- { state }
  no_state : {depth : ℕ} {parent : Option StateId} {s : Scope} → Draws depth Part.states parent s [] s
  more_states : {depth : ℕ} {parent : Option StateId} {s s' s'' : Scope} {us vs : List Lexeme}
      → Draws depth Part.state parent s us s' → Draws depth Part.states parent s' vs s''
      → Draws depth Part.states parent s (us ++ vs) s''

-- [ state ]: the root
pub data Root (s : Scope) : List Lexeme → Scope → Type 0 where
  no_root : Root s [] s
  root : {ws : List Lexeme} {s' : Scope} → Draws max_open Part.state None s ws s' → Root s ws s'
