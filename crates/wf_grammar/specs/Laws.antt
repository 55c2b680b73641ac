-- Of the laws. The reader of expressions and the grammar say the same.
use Rattle.std.specs.Prelude.{◌≡◌, ◌≢◌, ◌≤◌, ◌+◌, ℕ, List, [], ◌∷◌, ◌++◌, length, drop, Option, Some, None, Ok}
use Rattle.wf_model.specs.Limits.{max_nodes, max_open}
use Rattle.wf_model.specs.declared.expr.Op.{Op}
use Rattle.wf_model.specs.declared.expr.Expr.{Expr}
use Rattle.wf_model.specs.Accepted.{nodes}
use Rattle.wf_cursor.specs.declared.piece.Piece.{Piece}
use Rattle.wf_cursor.specs.Input.{Input}
use Rattle.wf_phrase.specs.Expressions.{expr}
use Rattle.wf_grammar.specs.Lexemes.{Lexeme, lexemes}
use Rattle.wf_grammar.specs.Phrases.{Rank, sign_of, Spells}

-- the input behind so many tokens, with so many nodes counted, and else the same
abbrev pub behind : (tokens count : ℕ) → Input → Input
behind tokens count i = record i { left = drop tokens i.left; at = i.at + tokens; nodes = count }

-- what is read is spelled by a front part of the lexemes, within the limits, and the input is then behind that part
abbrev pub ReadIsSpelled : Type 0
ReadIsSpelled =
    (i j : Input) (x : Expr) → expr i ≡ Ok (x, j) →
    (ws : List Lexeme)
    × Spells i.names max_open Rank.expr ws x
    × (nodes x ≤ max_nodes)
    × (lexemes i ≡ ws ++ lexemes j)
    × (j ≡ behind (length ws) (nodes x) i)

abbrev pub first_piece : List Lexeme → Option Piece
first_piece [] = None
first_piece (w ∷ ws) = Some w.piece

-- this is no operator's sign
abbrev pub IsNoOperator : Option Piece → Type 0
IsNoOperator p = (o : Op) → p ≢ Some (sign_of o)

-- what a front part of the lexemes spells within the limits is read, where no operator follows
abbrev pub SpelledIsRead : Type 0
SpelledIsRead =
    (i : Input) (ws more : List Lexeme) (x : Expr) →
    Spells i.names max_open Rank.expr ws x → nodes x ≤ max_nodes →
    lexemes i ≡ ws ++ more → IsNoOperator (first_piece more) →
    expr i ≡ Ok (x, behind (length ws) (nodes x) i)

-- lexemes of a text spell at most one expression
abbrev pub SpellsOne : Type 0
SpellsOne =
    (i : Input) (ws more : List Lexeme) (x y : Expr) → lexemes i ≡ ws ++ more →
    Spells i.names max_open Rank.expr ws x → nodes x ≤ max_nodes →
    Spells i.names max_open Rank.expr ws y → nodes y ≤ max_nodes →
    x ≡ y
