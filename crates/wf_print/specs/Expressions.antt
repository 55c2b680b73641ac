-- The text of expressions: every operator in parentheses.
use Rattle.std.specs.Prelude.{ℕ, ◌++◌, List}
use Rattle.std.specs.Fmt.{decimal}
use lib.Chars.{codes}
use Rattle.wf_model.specs.declared.chart.Chart.{Chart}
use Rattle.wf_model.specs.declared.expr.Expr.{Expr, end_of-Expr, more_of-Expr}
use Rattle.wf_model.specs.declared.expr.Expr.TheVariants as e
use Rattle.wf_words.specs.Names.{var_name, state_name, act_name}
use Rattle.wf_print.specs.Words.{truth_word, quoted, op_word}

abbrev pub expr_text : Chart → Expr → List ℕ
expr_text chart (e.Bool b) = truth_word b
expr_text chart (e.Int n) = decimal n
expr_text chart (e.Text t) = quoted t
expr_text chart (e.Var x) = var_name chart x
expr_text chart (e.In s) = codes "in(" ++ state_name chart s ++ codes ")"
expr_text chart (e.Count a) = codes "count(" ++ act_name chart a ++ codes ")"
expr_text chart (e.Done a) = codes "done(" ++ act_name chart a ++ codes ")"
expr_text chart (e.Not' p (more_of-Expr x end_of-Expr)) = codes "(not " ++ expr_text chart x ++ codes ")"
expr_text chart (e.Neg' p (more_of-Expr x end_of-Expr)) = codes "(- " ++ expr_text chart x ++ codes ")"
expr_text chart (e.Bin' op p (more_of-Expr x end_of-Expr) q (more_of-Expr y end_of-Expr)) =
    codes "(" ++ expr_text chart x ++ op_word op ++ expr_text chart y ++ codes ")"
