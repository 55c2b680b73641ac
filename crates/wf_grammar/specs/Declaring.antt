-- Of the laws. The grammar of declarations, a constructor for each alternative of a line.
use Rattle.std.specs.Prelude.{◌≡◌, ℕ, ◌+◌, true, false, List, [], ◌∷◌, ◌++◌, Option, Some, None, pos, neg_ℤ}
use Rattle.wf_model.specs.declared.ids.UnitId.{UnitId}
use Rattle.wf_model.specs.declared.ids.VarId.{VarId}
use Rattle.wf_model.specs.declared.value.Sort.{Sort}
use Rattle.wf_model.specs.declared.value.Sort.TheVariants as sorts
use Rattle.wf_model.specs.declared.value.Val.{Val}
use Rattle.wf_model.specs.declared.value.Val.TheVariants as v
use Rattle.wf_model.specs.Limits.{max_int}
use Rattle.wf_cursor.specs.declared.names.Declared.TheVariants as declared_as_a
use Rattle.wf_cursor.specs.declared.piece.Piece.{Piece}
use Rattle.wf_cursor.specs.declared.piece.Piece.TheVariants as pieces
use Rattle.wf_cursor.specs.Values.{number_up_to, short_text}
use Rattle.wf_grammar.specs.Lexemes.{Lexeme}
use Rattle.wf_grammar.specs.Phrases.{Names, Is, IsNameOf}
use Rattle.wf_grammar.specs.Scopes.{Scope, IsNewName, unit_named, event_named, var_named, act_named, with_unit, with_event, with_var, with_act}

-- the word of each sort
abbrev pub word_of_sort : Sort → Piece
word_of_sort sorts.Bool = pieces.BoolSort
word_of_sort sorts.Int = pieces.IntSort
word_of_sort sorts.Text = pieces.TextSort

-- literal = true | false | INT | - INT | TEXT
pub data Literal : List Lexeme → Val → Type 0 where
  literal_true : (w : Lexeme) → Is pieces.True w → Literal (w ∷ []) (v.Bool true)
  literal_false : (w : Lexeme) → Is pieces.False w → Literal (w ∷ []) (v.Bool false)
  literal_int : (w : Lexeme) (n : ℕ) → Is pieces.Int w → number_up_to max_int w.bytes ≡ Some n → Literal (w ∷ []) (v.Int (pos n))
  literal_minus : (minus w : Lexeme) (n : ℕ) → Is pieces.Minus minus → Is pieces.Int w → number_up_to (max_int + 1) w.bytes ≡ Some n
      → Literal (minus ∷ w ∷ []) (v.Int (neg_ℤ (pos n)))
  literal_text : (w : Lexeme) (t : List ℕ) → Is pieces.Text w → short_text w.bytes ≡ Some t → Literal (w ∷ []) (v.Text t)

-- [ at UNIT ]
pub data AtUnit (names : Names) : List Lexeme → Option UnitId → Type 0 where
  nowhere : AtUnit names [] None
  at_unit : (w n : Lexeme) (u : UnitId) → Is pieces.At w → IsNameOf names (declared_as_a.Unit u) n → AtUnit names (w ∷ n ∷ []) (Some u)

-- VAR { , VAR }
pub data Vars (names : Names) : List Lexeme → List VarId → Type 0 where
  one_var : (n : Lexeme) (x : VarId) → IsNameOf names (declared_as_a.Var x) n → Vars names (n ∷ []) (x ∷ [])
  more_vars : {ws : List Lexeme} {xs : List VarId} (n comma : Lexeme) (x : VarId)
      → IsNameOf names (declared_as_a.Var x) n → Is pieces.Comma comma → Vars names ws xs
      → Vars names (n ∷ comma ∷ ws) (x ∷ xs)

-- [ gives VAR { , VAR } ]
pub data Outputs (names : Names) : List Lexeme → List VarId → Type 0 where
  gives_nothing : Outputs names [] []
  gives_vars : {ws : List Lexeme} {xs : List VarId} (w : Lexeme) → Is pieces.Gives w → Vars names ws xs → Outputs names (w ∷ ws) xs

-- The lexemes are a declaration, from what was declared before it to what is declared behind it.
pub data Declares (s : Scope) : List Lexeme → Scope → Type 0 where
  -- unit NAME ;
  declares_unit : (w n ends : Lexeme)
      → Is pieces.Unit w → IsNewName s n → Is pieces.Semicolon ends
      → Declares s (w ∷ n ∷ ends ∷ []) (with_unit n.bytes (unit_named n s))
  -- event NAME [ at UNIT ] ;
  declares_event : {us : List Lexeme} (w n ends : Lexeme) (u : Option UnitId)
      → Is pieces.Event w → IsNewName s n → AtUnit (event_named n s).names us u → Is pieces.Semicolon ends
      → Declares s (w ∷ n ∷ (us ++ ends ∷ [])) (with_event (record { name = n.bytes; unit = u }) (event_named n s))
  -- var NAME : SORT = literal ;
  declares_var : {vs : List Lexeme} (w n colon word equal ends : Lexeme) (kind : Sort) (first : Val)
      → Is pieces.Var w → IsNewName s n → Is pieces.Colon colon → Is (word_of_sort kind) word → Is pieces.Equal equal
      → Literal vs first → Is pieces.Semicolon ends
      → Declares s (w ∷ n ∷ colon ∷ word ∷ equal ∷ (vs ++ ends ∷ [])) (with_var (record { name = n.bytes; sort = kind; first = first }) (var_named n s))
  -- activity NAME at UNIT [ gives VAR { , VAR } ] ;
  declares_act : {gs : List Lexeme} (w n at_word place ends : Lexeme) (u : UnitId) (outputs : List VarId)
      → Is pieces.Activity w → IsNewName s n → Is pieces.At at_word → IsNameOf (act_named n s).names (declared_as_a.Unit u) place
      → Outputs (act_named n s).names gs outputs → Is pieces.Semicolon ends
      → Declares s (w ∷ n ∷ at_word ∷ place ∷ (gs ++ ends ∷ [])) (with_act (record { name = n.bytes; unit = u; outputs = outputs }) (act_named n s))

-- { decl }
pub data Declarations : Scope → List Lexeme → Scope → Type 0 where
  no_declaration : {s : Scope} → Declarations s [] s
  more_declarations : {s s' s'' : Scope} {us vs : List Lexeme} → Declares s us s' → Declarations s' vs s'' → Declarations s (us ++ vs) s''
