-- Of the laws. The grammar of expressions, a constructor for each alternative of a line.
use Rattle.std.specs.Prelude.{◌≡◌, ◌≤◌, ℕ, suc, true, false, List, [], ◌∷◌, ◌++◌, length, Some}
use Rattle.wf_model.specs.Limits.{max_name, max_int}
use Rattle.wf_model.specs.declared.ids.VarId.{VarId}
use Rattle.wf_model.specs.declared.ids.StateId.{StateId}
use Rattle.wf_model.specs.declared.ids.ActId.{ActId}
use Rattle.wf_model.specs.declared.expr.Op.{Op}
use Rattle.wf_model.specs.declared.expr.Op.TheVariants as op
use Rattle.wf_model.specs.declared.expr.Expr.{Expr}
use Rattle.wf_model.specs.declared.expr.Expr.TheVariants as e
use Rattle.wf_cursor.specs.declared.names.Declared.{Declared}
use Rattle.wf_cursor.specs.declared.names.Declared.TheVariants as declared_as_a
use Rattle.wf_cursor.specs.declared.piece.Piece.{Piece}
use Rattle.wf_cursor.specs.declared.piece.Piece.TheVariants as pieces
use Rattle.wf_cursor.specs.Names.{declared_as}
use Rattle.wf_cursor.specs.Values.{number_up_to, short_text}
use Rattle.wf_grammar.specs.Lexemes.{Lexeme}

-- the lines of the grammar
pub data Rank : Type 0 where
  expr conj neg comp sum prod unary atom : Rank

-- the word or the sign of each operator
abbrev pub sign_of : Op → Piece
sign_of op.Or = pieces.Or
sign_of op.And = pieces.And
sign_of op.Eq = pieces.Equal
sign_of op.Ne = pieces.NotEqual
sign_of op.Lt = pieces.Less
sign_of op.Le = pieces.AtMost
sign_of op.Gt = pieces.Greater
sign_of op.Ge = pieces.AtLeast
sign_of op.Add = pieces.Plus
sign_of op.Sub = pieces.Minus
sign_of op.Mul = pieces.Star
sign_of op.Div = pieces.Slash
sign_of op.Rem = pieces.Percent

-- the line that has it between its phrases
abbrev pub line_of : Op → Rank
line_of op.Or = Rank.expr
line_of op.And = Rank.conj
line_of op.Eq = Rank.comp
line_of op.Ne = Rank.comp
line_of op.Lt = Rank.comp
line_of op.Le = Rank.comp
line_of op.Gt = Rank.comp
line_of op.Ge = Rank.comp
line_of op.Add = Rank.sum
line_of op.Sub = Rank.sum
line_of op.Mul = Rank.prod
line_of op.Div = Rank.prod
line_of op.Rem = Rank.prod

-- all names, each with what it is declared as
abbrev pub Names : Type 0
Names = List (List ℕ × Declared)

-- the lexeme is this reserved word or sign
abbrev pub Is : Piece → Lexeme → Type 0
Is piece w = w.piece ≡ piece

-- the lexeme is a name that is declared as this
pub record IsNameOf (names : Names) (what : Declared) (w : Lexeme) : Type 0 where
  pub is_name : w.piece ≡ pieces.Name
  pub is_short : length w.bytes ≤ max_name
  pub is_declared : declared_as names w.bytes ≡ Some what

-- Where these names are declared, the lexemes spell the expression by this line of the grammar, with at most so many
-- parentheses open at once.
pub data Spells (names : Names) : ℕ → Rank → List Lexeme → Expr → Type 0 where
  -- expr = conj | expr or conj
  expr_conj : {depth : ℕ} {ws : List Lexeme} {x : Expr} → Spells names depth Rank.conj ws x → Spells names depth Rank.expr ws x
  expr_or : {depth : ℕ} {us vs : List Lexeme} {x y : Expr} (w : Lexeme) (o : Op)
      → Spells names depth Rank.expr us x → line_of o ≡ Rank.expr → Is (sign_of o) w → Spells names depth Rank.conj vs y
      → Spells names depth Rank.expr (us ++ w ∷ vs) (e.Bin o x y)
  -- conj = neg | conj and neg
  conj_neg : {depth : ℕ} {ws : List Lexeme} {x : Expr} → Spells names depth Rank.neg ws x → Spells names depth Rank.conj ws x
  conj_and : {depth : ℕ} {us vs : List Lexeme} {x y : Expr} (w : Lexeme) (o : Op)
      → Spells names depth Rank.conj us x → line_of o ≡ Rank.conj → Is (sign_of o) w → Spells names depth Rank.neg vs y
      → Spells names depth Rank.conj (us ++ w ∷ vs) (e.Bin o x y)
  -- neg = comp | not neg
  neg_comp : {depth : ℕ} {ws : List Lexeme} {x : Expr} → Spells names depth Rank.comp ws x → Spells names depth Rank.neg ws x
  neg_not : {depth : ℕ} {ws : List Lexeme} {x : Expr} (w : Lexeme)
      → Is pieces.Not w → Spells names depth Rank.neg ws x
      → Spells names depth Rank.neg (w ∷ ws) (e.Not x)
  -- comp = sum | sum ( = | != | < | <= | > | >= ) sum
  comp_sum : {depth : ℕ} {ws : List Lexeme} {x : Expr} → Spells names depth Rank.sum ws x → Spells names depth Rank.comp ws x
  comp_both : {depth : ℕ} {us vs : List Lexeme} {x y : Expr} (w : Lexeme) (o : Op)
      → Spells names depth Rank.sum us x → line_of o ≡ Rank.comp → Is (sign_of o) w → Spells names depth Rank.sum vs y
      → Spells names depth Rank.comp (us ++ w ∷ vs) (e.Bin o x y)
  -- sum = prod | sum ( + | - ) prod
  sum_prod : {depth : ℕ} {ws : List Lexeme} {x : Expr} → Spells names depth Rank.prod ws x → Spells names depth Rank.sum ws x
  sum_more : {depth : ℕ} {us vs : List Lexeme} {x y : Expr} (w : Lexeme) (o : Op)
      → Spells names depth Rank.sum us x → line_of o ≡ Rank.sum → Is (sign_of o) w → Spells names depth Rank.prod vs y
      → Spells names depth Rank.sum (us ++ w ∷ vs) (e.Bin o x y)
  -- prod = unary | prod ( * | / | % ) unary
  prod_unary : {depth : ℕ} {ws : List Lexeme} {x : Expr} → Spells names depth Rank.unary ws x → Spells names depth Rank.prod ws x
  prod_more : {depth : ℕ} {us vs : List Lexeme} {x y : Expr} (w : Lexeme) (o : Op)
      → Spells names depth Rank.prod us x → line_of o ≡ Rank.prod → Is (sign_of o) w → Spells names depth Rank.unary vs y
      → Spells names depth Rank.prod (us ++ w ∷ vs) (e.Bin o x y)
  -- unary = atom | - unary
  unary_atom : {depth : ℕ} {ws : List Lexeme} {x : Expr} → Spells names depth Rank.atom ws x → Spells names depth Rank.unary ws x
  unary_minus : {depth : ℕ} {ws : List Lexeme} {x : Expr} (w : Lexeme)
      → Is pieces.Minus w → Spells names depth Rank.unary ws x
      → Spells names depth Rank.unary (w ∷ ws) (e.Neg x)
  -- atom = true | false | INT | TEXT | VAR | in ( STATE ) | count ( ACTIVITY ) | done ( ACTIVITY ) | ( expr )
  atom_true : {depth : ℕ} (w : Lexeme) → Is pieces.True w → Spells names depth Rank.atom (w ∷ []) (e.Bool true)
  atom_false : {depth : ℕ} (w : Lexeme) → Is pieces.False w → Spells names depth Rank.atom (w ∷ []) (e.Bool false)
  atom_int : {depth : ℕ} (w : Lexeme) (n : ℕ) → Is pieces.Int w → number_up_to max_int w.bytes ≡ Some n → Spells names depth Rank.atom (w ∷ []) (e.Int n)
  atom_text : {depth : ℕ} (w : Lexeme) (t : List ℕ) → Is pieces.Text w → short_text w.bytes ≡ Some t → Spells names depth Rank.atom (w ∷ []) (e.Text t)
  atom_var : {depth : ℕ} (w : Lexeme) (x : VarId) → IsNameOf names (declared_as_a.Var x) w → Spells names depth Rank.atom (w ∷ []) (e.Var x)
  atom_in : {depth : ℕ} (test opens w closes : Lexeme) (s : StateId)
      → Is pieces.In test → Is pieces.OpenParen opens → IsNameOf names (declared_as_a.State s) w → Is pieces.CloseParen closes
      → Spells names (suc depth) Rank.atom (test ∷ opens ∷ w ∷ closes ∷ []) (e.In s)
  atom_count : {depth : ℕ} (test opens w closes : Lexeme) (a : ActId)
      → Is pieces.Count test → Is pieces.OpenParen opens → IsNameOf names (declared_as_a.Activity a) w → Is pieces.CloseParen closes
      → Spells names (suc depth) Rank.atom (test ∷ opens ∷ w ∷ closes ∷ []) (e.Count a)
  atom_done : {depth : ℕ} (test opens w closes : Lexeme) (a : ActId)
      → Is pieces.Done test → Is pieces.OpenParen opens → IsNameOf names (declared_as_a.Activity a) w → Is pieces.CloseParen closes
      → Spells names (suc depth) Rank.atom (test ∷ opens ∷ w ∷ closes ∷ []) (e.Done a)
  atom_expr : {depth : ℕ} {ws : List Lexeme} {x : Expr} (opens closes : Lexeme)
      → Is pieces.OpenParen opens → Spells names depth Rank.expr ws x → Is pieces.CloseParen closes
      → Spells names (suc depth) Rank.atom (opens ∷ (ws ++ closes ∷ [])) x
