-- Lexemes of a text spell at most one expression: the reader answers it, where nothing follows.
use Rattle.std.proofs.Common.{◌≡◌, ◌≤◌, List, [], None, Ok, ◌∙◌, sym, append-nil, length}
use Rattle.wf_model.specs.Limits.{max_nodes, max_open}
use Rattle.wf_model.specs.declared.expr.Expr.{Expr}
use Rattle.wf_model.specs.Accepted.{nodes}
use Rattle.wf_cursor.specs.Input.{Input, Outcome}
use Rattle.wf_phrase.specs.Expressions.{expr}
use Rattle.wf_grammar.specs.Lexemes.{Lexeme, lexeme_of, lexemes}
use Rattle.wf_grammar.specs.Phrases.{Rank, Spells}
use Rattle.wf_grammar.specs.Laws.{behind, IsNoOperator, SpellsOne}
use Rattle.wf_grammar.proofs.Inputs.{pure_gives}
use Rattle.wf_grammar.proofs.SpellSteps.{parted}
use Rattle.wf_grammar.proofs.SpelledRead.{spelled_is_read}

-- nothing is no operator
nothing : IsNoOperator None
nothing o h = cc

-- a whole input that is spelled is read
whole_read : (i : Input) (ws : List Lexeme) (x : Expr) → Spells i.names max_open Rank.expr ws x → nodes x ≤ max_nodes → lexemes i ≡ ws
    → expr i ≡ Ok (x, behind (length ws) (nodes x) i)
whole_read i ws x s few is = spelled_is_read i ws [] x s few (is ∙ sym (append-nil ws)) nothing

-- an outcome has one value
one_value : (r : Outcome Expr) (x y : Expr) (j k : Input) → r ≡ Ok (x, j) → r ≡ Ok (y, k) → x ≡ y
one_value r x y j k a b =
    let both : ◌≡◌ {A = Outcome Expr} (Ok (x, j)) (Ok (y, k)) = sym a ∙ b in
    (pure_gives x y j k both).0

pub spells_one : SpellsOne
spells_one i ws more x y is s few r also_few =
    let p = parted (lexeme_of i.text) ws more i.left is in
    let front : Input = record i { left = p.left } in
    one_value (expr front) x y (behind (length ws) (nodes x) front) (behind (length ws) (nodes y) front)
    (whole_read front ws x s few p.left_is) (whole_read front ws y r also_few p.left_is)
