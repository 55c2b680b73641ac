-- The grammar of expressions, a rule for each of its lines.
-- A token that makes a node is counted before it is taken.
use Rattle.std.specs.Prelude.{ℕ, zero, suc, ◌==◌, Bool, true, false, if◌then◌else◌, length, Option, Some, None, Ok}
use Rattle.wf_model.specs.Limits.{max_open}
use Rattle.wf_model.specs.declared.ids.ActId.{ActId}
use Rattle.wf_model.specs.declared.expr.Op.{Op}
use Rattle.wf_model.specs.declared.expr.Expr.{Expr}
use Rattle.wf_model.specs.declared.expr.Expr.TheVariants as e
use Rattle.wf_cursor.specs.declared.piece.Piece.{Piece}
use Rattle.wf_cursor.specs.declared.piece.Piece.TheVariants as pieces
use Rattle.wf_cursor.specs.Input as input
use Rattle.wf_cursor.specs.Input.{Parser, ◌>>=◌, ◌>>◌, pure, take, syntax, oversize, changed, piece, sees, next, expect, node, without_nodes}
use Rattle.wf_phrase.specs.Operators.{or_operator, and_operator, comparison, sum_operator, product_operator}

-- `(`, where so many may still open
unfoldable pub open_paren : ℕ → Parser (Unit {0})
open_paren depth = λ i. if sees pieces.OpenParen i then (if depth == 0 then oversize i else Ok (tt, next i)) else syntax i

-- ( ACTIVITY )
unfoldable pub activity_inside : ℕ → Parser ActId
activity_inside depth = do
  open_paren depth
  a ← input.activity
  expect pieces.CloseParen
  pure a

-- ---- the atoms but those in parentheses

-- true | false
unfoldable pub truth : Bool → Parser Expr
truth b = node >> take >> pure (e.Bool b)

-- INT
unfoldable pub number : Parser Expr
number = do
  node
  n ← input.int
  pure (e.Int n)

-- TEXT
unfoldable pub characters : Parser Expr
characters = do
  node
  t ← input.text
  pure (e.Text t)

-- VAR
unfoldable pub variable : Parser Expr
variable = do
  node
  x ← input.variable
  pure (e.Var x)

-- in ( STATE )
unfoldable pub in_state : ℕ → Parser Expr
in_state depth = do
  node
  take
  open_paren depth
  s ← input.state
  expect pieces.CloseParen
  pure (e.In s)

-- count ( ACTIVITY )
unfoldable pub count_of : ℕ → Parser Expr
count_of depth = do
  node
  take
  a ← activity_inside depth
  pure (e.Count a)

-- done ( ACTIVITY )
unfoldable pub done_of : ℕ → Parser Expr
done_of depth = do
  node
  take
  a ← activity_inside depth
  pure (e.Done a)

-- ---- chains

abbrev pub chain_by : Parser Expr → (Expr → Parser Expr) → Expr → Option Op → Parser Expr
chain_by operand more left None = pure left
chain_by operand more left (Some op) = do
  node
  take
  right ← operand
  more (e.Bin op left right)

-- { operator operand } behind the left side, read from the left: each turn takes a token, so the count of tokens is enough
unfoldable pub chain_from : (Option Piece → Option Op) → Parser Expr → ℕ → Expr → Parser Expr
chain_from operator operand zero left = pure left
chain_from operator operand (suc n) left = λ i. chain_by operand (chain_from operator operand n) left (operator (piece i)) i

abbrev pub rest_of : (Option Piece → Option Op) → Parser Expr → Expr → Parser Expr
rest_of operator operand left = λ i. chain_from operator operand (length i.left) left i

-- operand { operator operand }
abbrev pub chain : (Option Piece → Option Op) → Parser Expr → Parser Expr
chain operator operand = operand >>= rest_of operator operand

-- ---- the rules, where so many parentheses may still open and the parser reads what stands in them, from `(` on

module _ (depth : ℕ) (nested : Parser Expr) where
  abbrev pub atom_by : Option Piece → Parser Expr
  atom_by (Some pieces.True) = truth true
  atom_by (Some pieces.False) = truth false
  atom_by (Some pieces.Int) = number
  atom_by (Some pieces.Text) = characters
  atom_by (Some pieces.Name) = variable
  atom_by (Some pieces.In) = in_state depth
  atom_by (Some pieces.Count) = count_of depth
  atom_by (Some pieces.Done) = done_of depth
  atom_by (Some pieces.OpenParen) = nested
  atom_by _ = syntax

  -- atom = true | false | INT | TEXT | VAR | in ( STATE ) | count ( ACTIVITY ) | done ( ACTIVITY ) | ( expr )
  unfoldable pub atom : Parser Expr
  atom = λ i. atom_by (piece i) i

  -- unary = - unary | atom: each turn takes a token, so the count of tokens is enough
  unfoldable pub unary_from : ℕ → Parser Expr
  unary_from zero = atom
  unary_from (suc n) = λ i. if sees pieces.Minus i then (do node; take; x ← unary_from n; pure (e.Neg x)) i else atom i

  abbrev pub unary : Parser Expr
  unary = λ i. unary_from (length i.left) i

  -- prod = unary { ( * | / | % ) unary }
  unfoldable pub prod : Parser Expr
  prod = chain product_operator unary

  -- sum = prod { ( + | - ) prod }
  unfoldable pub sum : Parser Expr
  sum = chain sum_operator prod

  abbrev pub comp_by : Expr → Option Op → Parser Expr
  comp_by left None = pure left
  comp_by left (Some op) = do
    node
    take
    right ← sum
    pure (e.Bin op left right)

  -- comp = sum [ ( = | != | < | <= | > | >= ) sum ]
  unfoldable pub comp : Parser Expr
  comp = sum >>= (λ left i. comp_by left (comparison (piece i)) i)

  -- neg = not neg | comp
  unfoldable pub neg_from : ℕ → Parser Expr
  neg_from zero = comp
  neg_from (suc n) = λ i. if sees pieces.Not i then (do node; take; x ← neg_from n; pure (e.Not x)) i else comp i

  abbrev pub neg : Parser Expr
  neg = λ i. neg_from (length i.left) i

  -- conj = neg { and neg }
  unfoldable pub conj : Parser Expr
  conj = chain and_operator neg

  -- conj { or conj }
  unfoldable pub disj : Parser Expr
  disj = chain or_operator conj

-- ( expr ), from `(` on, where so many may still open
unfoldable pub parens : ℕ → Parser Expr
parens zero = oversize
parens (suc depth) = do
  take
  inner ← disj depth (parens depth)
  expect pieces.CloseParen
  pure inner

-- expr = conj { or conj }: each expression counts its nodes and its open parentheses from 0
unfoldable pub expr : Parser Expr
expr = changed without_nodes >> disj max_open (parens max_open)
