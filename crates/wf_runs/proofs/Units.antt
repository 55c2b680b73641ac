-- What an accepted chart starts is at a unit.
use Rattle.std.proofs.Common.{◌≡◌, ℕ, ◌+◌, ◌<◌, nat_lt, Bool, true, false, List, [], ◌∷◌, length, Option, Some, None, unwrap_or, refl, ◌∙◌, ap, arith, ltb-true}
use Rattle.std.specs.List.{slice_get, list_all}
use Rattle.std.specs.Option.{option_map, option_map_or}
use Rattle.std.proofs.lemmas.List.Folds.{list_all-append}
use Rattle.wf_model.specs.declared.chart.Action.{Action}
use Rattle.wf_model.specs.declared.chart.Action.TheVariants.{Assign, Raise, Start}
use Rattle.wf_model.specs.declared.chart.Activity.{Activity}
use Rattle.wf_model.specs.declared.chart.Transition.{Transition}
use Rattle.wf_model.specs.declared.chart.Chart.{Chart}
use Rattle.wf_model.specs.declared.update.StartAt.{StartAt}
use Rattle.wf_model.specs.Accepted.{IsAccepted, is_known_action, is_known_transition, is_known_activity, is_unit}
use Rattle.wf_semantics.specs.Effects.{actions_of, starts_from, starts_of}
use Rattle.wf_semantics.specs.Run.{act_unit}
use Rattle.wf_model.proofs.Bools.{and_both, and_true}
use Rattle.wf_semantics.proofs.Children.{item_at}
use Rattle.wf_semantics.proofs.Facts.{AreParts, parts}
use Rattle.wf_model.proofs.Items.{all_at}

module _ (chart : Chart) (p : AreParts chart) where
  abbrev has_unit : StartAt → Bool
  has_unit s = option_map_or (λ u. nat_lt u (length chart.units)) (act_unit chart s.act.0) false

  unit_known : (a : ℕ) → a < length chart.acts → option_map_or (λ u. nat_lt u (length chart.units)) (act_unit chart a) false ≡ true
  unit_known a lt =
      let w = item_at chart.acts a lt in
      let known : is_known_activity chart w.0 ≡ true = all_at (is_known_activity chart) chart.acts p.known_activities a w.0 w.1 in
      ap (λ (o : Option Activity). option_map_or (λ u. nat_lt u (length chart.units)) (option_map (λ act. act.unit.0) o) false) w.1
      ∙ (and_both (is_unit chart w.0.unit) (list_all (λ x. nat_lt x.0 (length chart.vars)) w.0.outputs) known).0

  actions_have_units : (t place : ℕ) (actions : List Action) → list_all (is_known_action chart) actions ≡ true → list_all has_unit (starts_from t place actions) ≡ true
  actions_have_units t place [] h = refl
  actions_have_units t place (Assign x value ∷ rest) h =
      actions_have_units t (place + 1) rest (and_both (is_known_action chart (Assign x value)) (list_all (is_known_action chart) rest) h).1
  actions_have_units t place (Raise e ∷ rest) h =
      actions_have_units t (place + 1) rest (and_both (is_known_action chart (Raise e)) (list_all (is_known_action chart) rest) h).1
  actions_have_units t place (Start a ∷ rest) h =
      let both = and_both (is_known_action chart (Start a)) (list_all (is_known_action chart) rest) h in
      and_true (has_unit (record { act = a; trans = record { 0 = t }; place = place })) (list_all has_unit (starts_from t (place + 1) rest))
      (unit_known a.0 (ltb-true a.0 (length chart.acts) both.0)) (actions_have_units t (place + 1) rest both.1)

  actions_known : (t : ℕ) → list_all (is_known_action chart) (actions_of chart t) ≡ true
  actions_known t = go (slice_get chart.transitions t) (all_at (is_known_transition chart) chart.transitions p.known_transitions t)
    where
      go : (o : Option Transition) → ((trans : Transition) → o ≡ Some trans → is_known_transition chart trans ≡ true) →
          list_all (is_known_action chart) (unwrap_or (option_map (λ trans. trans.actions) o) []) ≡ true
      go None h = refl
      go (Some trans) h = let known : is_known_transition chart trans ≡ true = h trans refl in grind arith

  fired_have_units : (fired : List ℕ) → list_all has_unit (starts_of chart fired) ≡ true
  fired_have_units [] = refl
  fired_have_units (t ∷ ts) =
      list_all-append has_unit (starts_from t 0 (actions_of chart t)) (starts_of chart ts)
      ∙ and_true (list_all has_unit (starts_from t 0 (actions_of chart t))) (list_all has_unit (starts_of chart ts)) (actions_have_units t 0 (actions_of chart t) (actions_known t)) (fired_have_units ts)

pub starts_have_units : (chart : Chart) → IsAccepted chart → (fired : List ℕ) →
    list_all (λ s. option_map_or (λ u. nat_lt u (length chart.units)) (act_unit chart s.act.0) false) (starts_of chart fired) ≡ true
starts_have_units chart ok fired = fired_have_units chart (parts chart ok) fired
