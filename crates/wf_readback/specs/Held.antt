-- Of the laws. Literals as a program holds them.
use Rattle.std.specs.Prelude.{Bool, true, ◌&&◌, nat_le, length}
use Rattle.std.specs.List.{list_all}
use Rattle.wf_model.specs.Limits.{max_text}
use Rattle.wf_model.specs.declared.value.Val.{Val}
use Rattle.wf_model.specs.declared.value.Val.TheVariants as v
use Rattle.wf_model.specs.declared.expr.Expr.{Expr, end_of-Expr, more_of-Expr}
use Rattle.wf_model.specs.declared.expr.Expr.TheVariants as e
use Rattle.wf_model.specs.declared.chart.Action.{Action}
use Rattle.wf_model.specs.declared.chart.Action.TheVariants as act
use Rattle.wf_model.specs.declared.chart.Transition.{Transition}
use Rattle.wf_model.specs.declared.chart.Chart.{Chart}
use Rattle.wf_model.specs.Txt.{is_text}
use Rattle.wf_model.specs.Values.{fits_i64}
use Rattle.wf_model.specs.Accepted.{all_of}

-- a first value fits: an Int is one of 64 bits, a Text one of at most max_text text characters
abbrev pub is_short_value : Val → Bool
is_short_value (v.Bool b) = true
is_short_value (v.Int z) = fits_i64 z
is_short_value (v.Text t) = is_text t && nat_le (length t) max_text

-- each Text is one of at most max_text text characters
abbrev pub has_short_texts : Expr → Bool
has_short_texts (e.Text t) = is_text t && nat_le (length t) max_text
has_short_texts (e.Not' p (more_of-Expr x end_of-Expr)) = has_short_texts x
has_short_texts (e.Neg' p (more_of-Expr x end_of-Expr)) = has_short_texts x
has_short_texts (e.Bin' op p (more_of-Expr x end_of-Expr) q (more_of-Expr y end_of-Expr)) = has_short_texts x && has_short_texts y
has_short_texts _ = true

abbrev pub is_held_action : Action → Bool
is_held_action (act.Assign x value) = has_short_texts value
is_held_action _ = true

abbrev pub is_held_transition : Transition → Bool
is_held_transition t = all_of has_short_texts t.guard && list_all is_held_action t.actions

-- so is each chart that a program holds: first values fit, and Texts are short ones
unfoldable pub is_held : Chart → Bool
is_held c = list_all (λ x. is_short_value x.first) c.vars && list_all is_held_transition c.transitions
