-- Of the laws. Texts in lines.
use Rattle.std.specs.Prelude.{ℕ, ◌==◌, ◌&&◌, not, Bool, true, false, List, [], ◌∷◌, nat_le, if◌then◌else◌, IsTrue}
use Rattle.std.specs.List.{list_all}
use Rattle.wf_model.specs.declared.value.Val.{Val}
use Rattle.wf_model.specs.declared.value.Val.TheVariants as v
use Rattle.wf_model.specs.declared.expr.Expr.{Expr, end_of-Expr, more_of-Expr}
use Rattle.wf_model.specs.declared.expr.Expr.TheVariants as e
use Rattle.wf_model.specs.declared.chart.Action.{Action}
use Rattle.wf_model.specs.declared.chart.Action.TheVariants as act
use Rattle.wf_model.specs.declared.chart.Transition.{Transition}
use Rattle.wf_model.specs.declared.chart.Chart.{Chart}
use Rattle.wf_model.specs.Txt.{is_text}
use Rattle.wf_model.specs.Accepted.{IsAccepted, all_of}
use Rattle.wf_print.specs.ChartText.{chart_text}

-- a space to `~`
abbrev pub is_printable : ℕ → Bool
is_printable b = nat_le 32 b && nat_le b 126

-- Every byte is a printable character or the LF that ends a line. No line is empty, and none begins with `-`. The flag says
-- that a line begins here.
abbrev pub are_lines : Bool → List ℕ → Bool
are_lines begins [] = begins
are_lines true (b ∷ bs) = is_printable b && not (b == 45) && are_lines false bs
are_lines false (b ∷ bs) = if b == 10 then are_lines true bs else (is_printable b && are_lines false bs)

-- Text values are made of text characters: so is each that a program holds.

abbrev pub is_text_value : Val → Bool
is_text_value (v.Text t) = is_text t
is_text_value _ = true

abbrev pub has_texts : Expr → Bool
has_texts (e.Text t) = is_text t
has_texts (e.Not' p (more_of-Expr x end_of-Expr)) = has_texts x
has_texts (e.Neg' p (more_of-Expr x end_of-Expr)) = has_texts x
has_texts (e.Bin' op p (more_of-Expr x end_of-Expr) q (more_of-Expr y end_of-Expr)) = has_texts x && has_texts y
has_texts _ = true

abbrev pub assigns_texts : Action → Bool
assigns_texts (act.Assign x value) = has_texts value
assigns_texts _ = true

abbrev pub moves_by_texts : Transition → Bool
moves_by_texts t = all_of has_texts t.guard && list_all assigns_texts t.actions

unfoldable pub are_texts : Chart → Bool
are_texts c = list_all (λ x. is_text_value x.first) c.vars && list_all moves_by_texts c.transitions

-- the canonical text of a chart is printable, line by line, and no line of it begins with `-`
abbrev pub TextIsLined : Type 0
TextIsLined = (chart : Chart) → IsAccepted chart → IsTrue (are_texts chart) → IsTrue (are_lines true (chart_text chart))
