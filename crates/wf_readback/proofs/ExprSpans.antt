-- The canonical text of an expression, span by span.
use Rattle.std.specs.Prelude.{◌≡◌, ℕ, ◌++◌, ◌<◌, Bool, true, ◌&&◌, nat_le, List, [], ◌∷◌, length, Some}
use Rattle.std.specs.Fmt.{decimal}
use lib.Chars.{codes}
use Rattle.wf_model.specs.Limits.{max_text, max_int}
use Rattle.wf_model.specs.declared.ids.VarId.{VarId}
use Rattle.wf_model.specs.declared.ids.StateId.{StateId}
use Rattle.wf_model.specs.declared.ids.ActId.{ActId}
use Rattle.wf_model.specs.declared.chart.Chart.{Chart}
use Rattle.wf_model.specs.declared.expr.Op.{Op}
use Rattle.wf_model.specs.declared.expr.Op.TheVariants as o
use Rattle.wf_model.specs.declared.expr.Expr.{Expr, end_of-Expr, more_of-Expr}
use Rattle.wf_model.specs.declared.expr.Expr.TheVariants as e
use Rattle.wf_model.specs.Txt.{is_text}
use Rattle.wf_lex.specs.declared.token.TokenKind.TheVariants as kinds
use Rattle.wf_cursor.specs.declared.names.Declared.TheVariants as declared_as_a
use Rattle.wf_cursor.specs.Names.{declared_as}
use Rattle.wf_words.specs.Names.{var_name, state_name, act_name}
use Rattle.wf_print.specs.Words.{truth_word, quoted}
use Rattle.wf_grammar.specs.Phrases.{Names}
use Rattle.wf_readback.proofs.Spans.{Span}

abbrev pub word : List ℕ → Span
word bytes = Span.token kinds.Word bytes

abbrev pub sign : List ℕ → Span
sign bytes = Span.token kinds.Sign bytes

abbrev pub blank : Span
blank = Span.gap (codes " ")

-- the operator alone
abbrev pub op_span : Op → Span
op_span o.Or = word (codes "or")
op_span o.And = word (codes "and")
op_span o.Eq = sign (codes "=")
op_span o.Ne = sign (codes "!=")
op_span o.Lt = sign (codes "<")
op_span o.Le = sign (codes "<=")
op_span o.Gt = sign (codes ">")
op_span o.Ge = sign (codes ">=")
op_span o.Add = sign (codes "+")
op_span o.Sub = sign (codes "-")
op_span o.Mul = sign (codes "*")
op_span o.Div = sign (codes "/")
op_span o.Rem = sign (codes "%")

-- a test of a state or of an activity
abbrev pub test_spans : (test name : List ℕ) → List Span
test_spans test name = word test ∷ sign (codes "(") ∷ word name ∷ sign (codes ")") ∷ []

abbrev pub expr_spans : Chart → Expr → List Span
expr_spans chart (e.Bool b) = word (truth_word b) ∷ []
expr_spans chart (e.Int n) = Span.token kinds.Int (decimal n) ∷ []
expr_spans chart (e.Text t) = Span.token kinds.Text (quoted t) ∷ []
expr_spans chart (e.Var x) = word (var_name chart x) ∷ []
expr_spans chart (e.In s) = test_spans (codes "in") (state_name chart s)
expr_spans chart (e.Count a) = test_spans (codes "count") (act_name chart a)
expr_spans chart (e.Done a) = test_spans (codes "done") (act_name chart a)
expr_spans chart (e.Not' p (more_of-Expr x end_of-Expr)) = sign (codes "(") ∷ word (codes "not") ∷ blank ∷ (expr_spans chart x ++ sign (codes ")") ∷ [])
expr_spans chart (e.Neg' p (more_of-Expr x end_of-Expr)) = sign (codes "(") ∷ sign (codes "-") ∷ blank ∷ (expr_spans chart x ++ sign (codes ")") ∷ [])
expr_spans chart (e.Bin' op p (more_of-Expr x end_of-Expr) q (more_of-Expr y end_of-Expr)) =
    sign (codes "(") ∷ (expr_spans chart x ++ blank ∷ op_span op ∷ blank ∷ (expr_spans chart y ++ sign (codes ")") ∷ []))

-- no Int is too great, and each Text is one of at most max_text text characters
abbrev pub has_short_literals : Expr → Bool
has_short_literals (e.Int n) = nat_le n max_int
has_short_literals (e.Text t) = is_text t && nat_le (length t) max_text
has_short_literals (e.Not' p (more_of-Expr x end_of-Expr)) = has_short_literals x
has_short_literals (e.Neg' p (more_of-Expr x end_of-Expr)) = has_short_literals x
has_short_literals (e.Bin' op p (more_of-Expr x end_of-Expr) q (more_of-Expr y end_of-Expr)) = has_short_literals x && has_short_literals y
has_short_literals _ = true

-- each name that expressions of the chart may have is declared as what it is
pub record AreDeclared (names : Names) (chart : Chart) : Type 0 where
  pub vars : (x : VarId) → x.0 < length chart.vars → declared_as names (var_name chart x) ≡ Some (declared_as_a.Var x)
  pub states : (s : StateId) → s.0 < length chart.states → declared_as names (state_name chart s) ≡ Some (declared_as_a.State s)
  pub acts : (a : ActId) → a.0 < length chart.acts → declared_as names (act_name chart a) ≡ Some (declared_as_a.Activity a)
