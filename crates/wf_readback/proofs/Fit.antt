-- What an accepted chart has can be read.
use Rattle.std.proofs.Common.{◌≡◌, ◌&&◌, true, nat_lt, nat_le, List, [], ◌∷◌, length, Option, Some, None, refl, arith}
use Rattle.std.specs.List.{list_all}
use Rattle.wf_model.specs.Limits.{max_nodes, max_actions}
use Rattle.wf_model.specs.declared.ids.EventId.{EventId}
use Rattle.wf_model.specs.declared.expr.Expr.{Expr}
use Rattle.wf_model.specs.declared.chart.Action.{Action}
use Rattle.wf_model.specs.declared.chart.Action.TheVariants as act
use Rattle.wf_model.specs.declared.chart.Transition.{Transition}
use Rattle.wf_model.specs.declared.chart.Chart.{Chart}
use Rattle.wf_model.specs.Accepted.{IsAccepted, is_accepted, is_small, nodes, all_of, is_known_expr, is_known_action, is_known_transition, is_small_action, is_small_transition}
use Rattle.wf_model.proofs.Bools.{and_both}
use Rattle.wf_grammar.proofs.Inputs.{fits_is}
use Rattle.wf_readback.proofs.ExprSpans.{has_short_literals}
use Rattle.wf_readback.specs.Held.{is_short_value}
use Rattle.wf_readback.proofs.ChartSpans.{is_short_action, is_short_transition, is_short}
use Rattle.wf_readback.proofs.Known.{is_named_of, known}
use Rattle.wf_readback.proofs.Reading.{TransitionsAreRead}
use Rattle.wf_readback.proofs.Steps.{made_of, at_end}
use Rattle.wf_readback.proofs.Transitions.{IsFitAction, AreFitActions, IsFitGuard, IsKnownCause, IsFitTransition, AreFitTransitions, transitions_step}

is_small_of : (chart : Chart) → IsAccepted chart → is_small chart ≡ true
unfolding is_accepted
is_small_of chart ok = grind arith

small_transitions : (chart : Chart) → is_small chart ≡ true → list_all is_small_transition chart.transitions ≡ true
unfolding is_small
small_transitions chart h = grind arith

short_transitions : (chart : Chart) → is_short chart ≡ true → list_all is_short_transition chart.transitions ≡ true
unfolding is_short
short_transitions chart h = (and_both (list_all (λ x. is_short_value x.first) chart.vars) (list_all is_short_transition chart.transitions) h).1

module _ (chart : Chart) where
  action_fit : (x : Action) → is_known_action chart x ≡ true → is_short_action x ≡ true → is_small_action x ≡ true → IsFitAction chart x
  action_fit (act.Assign x value) knows short small =
      let p = and_both (nat_lt x.0 (length chart.vars)) (is_known_expr chart value) knows in
      (p.0, (p.1, short, fits_is (nodes value) max_nodes small))
  action_fit (act.Raise event) knows short small = knows
  action_fit (act.Start a) knows short small = knows

  actions_fit : (xs : List Action) → list_all (is_known_action chart) xs ≡ true → list_all is_short_action xs ≡ true → list_all is_small_action xs ≡ true → AreFitActions chart xs
  actions_fit [] knows short small = tt
  actions_fit (x ∷ xs) knows short small =
      let a = and_both (is_known_action chart x) (list_all (is_known_action chart) xs) knows in
      let b = and_both (is_short_action x) (list_all is_short_action xs) short in
      let c = and_both (is_small_action x) (list_all is_small_action xs) small in
      (action_fit x a.0 b.0 c.0, actions_fit xs a.1 b.1 c.1)

  guard_fit : (guard : Option Expr) → all_of (is_known_expr chart) guard ≡ true → all_of has_short_literals guard ≡ true → all_of (λ x. nat_le (nodes x) max_nodes) guard ≡ true → IsFitGuard chart guard
  guard_fit None knows short small = tt
  guard_fit (Some x) knows short small = (knows, short, fits_is (nodes x) max_nodes small)

  cause_known : (event : Option EventId) → all_of (λ e. nat_lt e.0 (length chart.events)) event ≡ true → IsKnownCause chart event
  cause_known None knows = tt
  cause_known (Some e) knows = knows

  transition_fit : (t : Transition) → is_known_transition chart t ≡ true → is_short_transition t ≡ true → is_small_transition t ≡ true → IsFitTransition chart t
  transition_fit t knows short small =
      let source = nat_lt t.source.0 (length chart.states) in
      let target = nat_lt t.target.0 (length chart.states) in
      let event = all_of (λ event. nat_lt event.0 (length chart.events)) t.event in
      let guard = all_of (is_known_expr chart) t.guard in
      let actions = list_all (is_known_action chart) t.actions in
      let a = and_both (source && target && event && guard) actions knows in
      let b = and_both (source && target && event) guard a.0 in
      let c = and_both (source && target) event b.0 in
      let d = and_both source target c.0 in
      let s = and_both (all_of has_short_literals t.guard) (list_all is_short_action t.actions) short in
      let n = and_both (all_of (λ x. nat_le (nodes x) max_nodes) t.guard && nat_le (length t.actions) max_actions) (list_all is_small_action t.actions) small in
      let k = and_both (all_of (λ x. nat_le (nodes x) max_nodes) t.guard) (nat_le (length t.actions) max_actions) n.0 in
      record {
        source = d.0;
        target = d.1;
        event = cause_known t.event c.1;
        guard = guard_fit t.guard b.1 s.0 k.0;
        actions = actions_fit t.actions a.1 s.1 n.1;
      }

  transitions_fit : (ts : List Transition) → list_all (is_known_transition chart) ts ≡ true → list_all is_short_transition ts ≡ true → list_all is_small_transition ts ≡ true → AreFitTransitions chart ts
  transitions_fit [] knows short small = tt
  transitions_fit (t ∷ ts) knows short small =
      let a = and_both (is_known_transition chart t) (list_all (is_known_transition chart) ts) knows in
      let b = and_both (is_short_transition t) (list_all is_short_transition ts) short in
      let c = and_both (is_small_transition t) (list_all is_small_transition ts) small in
      (transition_fit t a.0 b.0 c.0, transitions_fit ts a.1 b.1 c.1)

pub all_fit : (chart : Chart) → IsAccepted chart → is_short chart ≡ true → AreFitTransitions chart chart.transitions
all_fit chart ok short = transitions_fit chart chart.transitions (known chart ok).transitions (short_transitions chart short) (small_transitions chart (is_small_of chart ok))

pub transitions_are_read : TransitionsAreRead
transitions_are_read chart i ok short are left =
    let a = transitions_step chart (is_named_of chart ok) (made_of i) are chart.transitions i (all_fit chart ok short) (record { left = left; made = refl }) in
    (a.behind, a.is, at_end i a.behind a.at)
