-- The spans of an expression are its text.
use Rattle.std.proofs.Common.{◌≡◌, ℕ, List, [], ◌∷◌, ◌++◌, refl, sym, ◌∙◌, ap, append_assoc, append-nil}
use Rattle.std.specs.Fmt.{decimal}
use lib.Chars.{codes}
use Rattle.wf_model.specs.declared.expr.Op.{Op}
use Rattle.wf_model.specs.declared.expr.Op.TheVariants as o
use Rattle.wf_model.specs.declared.expr.Expr.{end_of-Expr, more_of-Expr}
use Rattle.wf_model.specs.declared.expr.Expr.TheVariants as e
use Rattle.wf_words.specs.Names.{var_name}
use Rattle.wf_print.specs.Words.{truth_word, quoted, op_word}
use Rattle.wf_print.specs.Expressions.{expr_text}
use Rattle.wf_readback.proofs.Spans.{Span, bytes_of, written}
use Rattle.wf_readback.proofs.ExprSpans.{sign, blank, op_span, expr_spans}
use Rattle.wf_readback.proofs.Canon.{ExprIsWritten}

pub written-append : (us vs : List Span) → written (us ++ vs) ≡ written us ++ written vs
written-append [] vs = refl
written-append (u ∷ us) vs = ap (λ t. bytes_of u ++ t) (written-append us vs) ∙ sym (append_assoc (bytes_of u) (written us) (written vs))

-- an operator between blanks
between : (op : Op) (rest : List ℕ) → 32 ∷ (bytes_of (op_span op) ++ 32 ∷ rest) ≡ op_word op ++ rest
between o.Or rest = refl
between o.And rest = refl
between o.Eq rest = refl
between o.Ne rest = refl
between o.Lt rest = refl
between o.Le rest = refl
between o.Gt rest = refl
between o.Ge rest = refl
between o.Add rest = refl
between o.Sub rest = refl
between o.Mul rest = refl
between o.Div rest = refl
between o.Rem rest = refl

-- what stands before the closing parenthesis
closed : (spans : List Span) (text : List ℕ) → written spans ≡ text → written (spans ++ sign (codes ")") ∷ []) ≡ text ++ codes ")"
closed spans text is = written-append spans (sign (codes ")") ∷ []) ∙ ap (λ t. t ++ codes ")") is

sides : (op : Op) (us vs : List Span) (a b : List ℕ) → written us ≡ a → written vs ≡ b
    → written (us ++ blank ∷ op_span op ∷ blank ∷ (vs ++ sign (codes ")") ∷ [])) ≡ a ++ op_word op ++ b ++ codes ")"
sides op us vs a b left right =
    written-append us (blank ∷ op_span op ∷ blank ∷ (vs ++ sign (codes ")") ∷ []))
    ∙ ap (λ t. t ++ 32 ∷ (bytes_of (op_span op) ++ 32 ∷ written (vs ++ sign (codes ")") ∷ []))) left
    ∙ ap (λ t. a ++ 32 ∷ (bytes_of (op_span op) ++ 32 ∷ t)) (closed vs b right)
    ∙ ap (λ t. a ++ t) (between op (b ++ codes ")"))
    ∙ sym (append_assoc (a ++ op_word op) b (codes ")") ∙ append_assoc a (op_word op) (b ++ codes ")"))

pub expr_is_written : ExprIsWritten
expr_is_written chart (e.Bool b) = append-nil (truth_word b)
expr_is_written chart (e.Int n) = append-nil (decimal n)
expr_is_written chart (e.Text t) = append-nil (quoted t)
expr_is_written chart (e.Var x) = append-nil (var_name chart x)
expr_is_written chart (e.In s) = refl
expr_is_written chart (e.Count a) = refl
expr_is_written chart (e.Done a) = refl
expr_is_written chart (e.Not' p (more_of-Expr x end_of-Expr)) = ap (λ t. codes "(not " ++ t) (closed (expr_spans chart x) (expr_text chart x) (expr_is_written chart x))
expr_is_written chart (e.Neg' p (more_of-Expr x end_of-Expr)) = ap (λ t. codes "(- " ++ t) (closed (expr_spans chart x) (expr_text chart x) (expr_is_written chart x))
expr_is_written chart (e.Bin' op p (more_of-Expr x end_of-Expr) q (more_of-Expr y end_of-Expr)) =
    ap (λ t. codes "(" ++ t) (sides op (expr_spans chart x) (expr_spans chart y) (expr_text chart x) (expr_text chart y) (expr_is_written chart x) (expr_is_written chart y))
