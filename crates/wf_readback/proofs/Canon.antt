-- The canonical text of a chart is cut into the tokens of its spans: the steps.
use Rattle.std.proofs.Common.{◌≡◌, ◌≤◌, ℕ, ◌++◌, false, List, [], length, map, Ok}
use Rattle.std.specs.Prelude.{slice_index, IsTrue}
use Rattle.wf_model.specs.Limits.{max_nodes}
use Rattle.wf_model.specs.declared.chart.Chart.{Chart}
use Rattle.wf_model.specs.declared.expr.Expr.{Expr}
use Rattle.wf_model.specs.Accepted.{nodes, is_known_expr, is_named, IsAccepted}
use Rattle.wf_model.specs.Names.{is_word_char}
use Rattle.wf_lex.specs.declared.token.Token.{Token}
use Rattle.wf_print.specs.Expressions.{expr_text}
use Rattle.wf_print.specs.ChartText.{chart_text}
use Rattle.wf_cursor.specs.Input.{Input}
use Rattle.wf_phrase.specs.Expressions.{expr}
use Rattle.wf_grammar.specs.Lexemes.{Lexeme, lexeme_of, lexemes}
use Rattle.wf_grammar.specs.Phrases.{Names, Rank, Spells}
use Rattle.wf_grammar.specs.Laws.{behind, first_piece, IsNoOperator}
use Rattle.wf_readback.specs.Cuts.{IsCut}
use Rattle.wf_readback.proofs.Spans.{Span, written, lexemes_of, AreApart}
use Rattle.wf_readback.proofs.ExprSpans.{expr_spans, has_short_literals, AreDeclared}
use Rattle.wf_readback.proofs.ChartSpans.{chart_spans, is_short}

-- a text of blanks and tokens is cut into these tokens, however many they are
abbrev pub EveryWrittenIsCut : Type 0
EveryWrittenIsCut =
    (spans : List Span) → AreApart spans [] →
    (tokens : List Token) × IsCut (written spans) tokens × (map (lexeme_of (written spans)) tokens ≡ lexemes_of spans)

-- the spans of an expression are its canonical text
abbrev pub ExprIsWritten : Type 0
ExprIsWritten = (chart : Chart) (x : Expr) → written (expr_spans chart x) ≡ expr_text chart x

-- and stand apart, where no letter, digit or `_` follows
abbrev pub ExprIsApart : Type 0
ExprIsApart =
    (chart : Chart) (x : Expr) (rest : List ℕ) → IsTrue (is_named chart) → IsTrue (is_known_expr chart x) → IsTrue (has_short_literals x) → is_word_char (slice_index rest 0) ≡ false →
    AreApart (expr_spans chart x) rest

-- the tokens of an expression spell it, with at most as many parentheses open as it has nodes
abbrev pub ExprIsSpelled : Type 0
ExprIsSpelled =
    (chart : Chart) (names : Names) (x : Expr) (depth : ℕ) →
    IsTrue (is_named chart) → AreDeclared names chart → IsTrue (is_known_expr chart x) → IsTrue (has_short_literals x) → nodes x ≤ depth →
    Spells names depth Rank.atom (lexemes_of (expr_spans chart x)) x

-- the reader reads them as that expression, where no operator follows
abbrev pub ExprIsRead : Type 0
ExprIsRead =
    (chart : Chart) (x : Expr) (i : Input) (more : List Lexeme) →
    IsTrue (is_named chart) → AreDeclared i.names chart → IsTrue (is_known_expr chart x) → IsTrue (has_short_literals x) → nodes x ≤ max_nodes →
    lexemes i ≡ lexemes_of (expr_spans chart x) ++ more → IsNoOperator (first_piece more) →
    expr i ≡ Ok (x, behind (length (lexemes_of (expr_spans chart x))) (nodes x) i)

-- the canonical text of an accepted chart is cut into the tokens of its spans, however many they are
abbrev pub EveryChartIsCut : Type 0
EveryChartIsCut =
    (chart : Chart) → IsAccepted chart → IsTrue (is_short chart) →
    (tokens : List Token) × IsCut (chart_text chart) tokens × (map (lexeme_of (chart_text chart)) tokens ≡ lexemes_of (chart_spans chart))
