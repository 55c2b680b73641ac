-- The text values of a chart that a program holds are made of text characters.
use Rattle.std.proofs.Common.{◌≡◌, true, nat_le, List, [], ◌∷◌, length, Option, Some, None, refl}
use Rattle.std.specs.List.{list_all}
use Rattle.wf_model.specs.Limits.{max_text}
use Rattle.wf_model.specs.declared.value.Val.{Val}
use Rattle.wf_model.specs.declared.value.Val.TheVariants as v
use Rattle.wf_model.specs.declared.expr.Expr.{Expr, end_of-Expr, more_of-Expr}
use Rattle.wf_model.specs.declared.expr.Expr.TheVariants as e
use Rattle.wf_model.specs.declared.chart.Action.{Action}
use Rattle.wf_model.specs.declared.chart.Action.TheVariants as act
use Rattle.wf_model.specs.declared.chart.Variable.{Variable}
use Rattle.wf_model.specs.declared.chart.Transition.{Transition}
use Rattle.wf_model.specs.declared.chart.Chart.{Chart}
use Rattle.wf_model.specs.Txt.{is_text}
use Rattle.wf_model.specs.Accepted.{all_of}
use Rattle.wf_model.proofs.Bools.{and_both, and_true}
use Rattle.wf_print.specs.Lined.{is_text_value, has_texts, assigns_texts, moves_by_texts, are_texts}
use Rattle.wf_readback.specs.Held.{is_short_value, has_short_texts, is_held_action, is_held_transition, is_held}

value_texts : (x : Val) → is_short_value x ≡ true → is_text_value x ≡ true
value_texts (v.Bool b) held = refl
value_texts (v.Int z) held = refl
value_texts (v.Text t) held = (and_both (is_text t) (nat_le (length t) max_text) held).0

expr_texts : (x : Expr) → has_short_texts x ≡ true → has_texts x ≡ true
expr_texts (e.Bool b) held = refl
expr_texts (e.Int n) held = refl
expr_texts (e.Text t) held = (and_both (is_text t) (nat_le (length t) max_text) held).0
expr_texts (e.Var x) held = refl
expr_texts (e.In i) held = refl
expr_texts (e.Count a) held = refl
expr_texts (e.Done a) held = refl
expr_texts (e.Not' p (more_of-Expr x end_of-Expr)) held = expr_texts x held
expr_texts (e.Neg' p (more_of-Expr x end_of-Expr)) held = expr_texts x held
expr_texts (e.Bin' op p (more_of-Expr x end_of-Expr) q (more_of-Expr y end_of-Expr)) held =
    let sides = and_both (has_short_texts x) (has_short_texts y) held in
    and_true (has_texts x) (has_texts y) (expr_texts x sides.0) (expr_texts y sides.1)

guard_texts : (guard : Option Expr) → all_of has_short_texts guard ≡ true → all_of has_texts guard ≡ true
guard_texts None held = refl
guard_texts (Some x) held = expr_texts x held

action_texts : (x : Action) → is_held_action x ≡ true → assigns_texts x ≡ true
action_texts (act.Assign x value) held = expr_texts value held
action_texts (act.Raise event) held = refl
action_texts (act.Start a) held = refl

actions_texts : (xs : List Action) → list_all is_held_action xs ≡ true → list_all assigns_texts xs ≡ true
actions_texts [] held = refl
actions_texts (x ∷ xs) held =
    let parts = and_both (is_held_action x) (list_all is_held_action xs) held in
    and_true (assigns_texts x) (list_all assigns_texts xs) (action_texts x parts.0) (actions_texts xs parts.1)

transition_texts : (t : Transition) → is_held_transition t ≡ true → moves_by_texts t ≡ true
transition_texts t held =
    let parts = and_both (all_of has_short_texts t.guard) (list_all is_held_action t.actions) held in
    and_true (all_of has_texts t.guard) (list_all assigns_texts t.actions) (guard_texts t.guard parts.0) (actions_texts t.actions parts.1)

transitions_texts : (ts : List Transition) → list_all is_held_transition ts ≡ true → list_all moves_by_texts ts ≡ true
transitions_texts [] held = refl
transitions_texts (t ∷ ts) held =
    let parts = and_both (is_held_transition t) (list_all is_held_transition ts) held in
    and_true (moves_by_texts t) (list_all moves_by_texts ts) (transition_texts t parts.0) (transitions_texts ts parts.1)

vars_texts : (xs : List Variable) → list_all (λ x. is_short_value x.first) xs ≡ true → list_all (λ x. is_text_value x.first) xs ≡ true
vars_texts [] held = refl
vars_texts (x ∷ xs) held =
    let parts = and_both (is_short_value x.first) (list_all (λ x. is_short_value x.first) xs) held in
    and_true (is_text_value x.first) (list_all (λ x. is_text_value x.first) xs) (value_texts x.first parts.0) (vars_texts xs parts.1)

pub texts_of : (chart : Chart) → is_held chart ≡ true → are_texts chart ≡ true
unfolding is_held are_texts
texts_of chart held =
    let parts = and_both (list_all (λ x. is_short_value x.first) chart.vars) (list_all is_held_transition chart.transitions) held in
    and_true (list_all (λ x. is_text_value x.first) chart.vars) (list_all moves_by_texts chart.transitions) (vars_texts chart.vars parts.0)
    (transitions_texts chart.transitions parts.1)
