-- The step on components is the step on the walk.
use Rattle.std.proofs.Common.{◌≡◌, ℕ, ◌<◌, ◌||◌, ◌&&◌, not, Bool, true, false, List, [], length, map, filter, slice_get, unwrap_or, refl, sym, ap, ap₂, ◌∙◌, arith}
use Rattle.std.specs.List.{list_any}
use Rattle.std.proofs.Math.Bool.{and_comm, and-or_distrib_left}
use Rattle.std.proofs.lemmas.Option.{unwrap_or-slice_get}
use Rattle.std.proofs.lemmas.List.FromFn.{get_or-map-range_with_len}
use Rattle.wf_model.specs.declared.ids.TransId.{TransId}
use Rattle.wf_model.specs.declared.chart.Chart.{Chart}
use Rattle.wf_model.specs.Tree.{all_transitions, scope, is_above}
use Rattle.wf_model.specs.Accepted.{IsAccepted}
use Rattle.wf_model.specs.Ids.{trans_id}
use Rattle.wf_semantics.specs.Configuration.{Tree, is_in, IsConfiguration}
use Rattle.wf_semantics.specs.Entry.{entry_tree}
use Rattle.wf_semantics.specs.Walk.{new_tree}
use Rattle.wf_semantics.specs.Flat.{blockers, fires, HaveActiveSources}
use Rattle.wf_model.proofs.Bools.{any_agree, any_map, any_filter, any_or}
use Rattle.wf_semantics.proofs.Lists.{filter_agree}
use Rattle.wf_semantics.proofs.Steps.{transition_mem}
use Rattle.wf_semantics.proofs.LawsHold.{walk_fires_by_rule, walk_moves_by_rule}
use Rattle.wf_parts.specs.Components.{enters, leaves, component_of, blocker_ids, flat_of, fires_by, is_in_after}
use Rattle.wf_parts.specs.Laws.{FlatStep}
use Rattle.wf_parts.proofs.Entered.{below_is_moved}

-- the row of t's blockers in the flat chart
flat_row : (chart : Chart) (t : ℕ) → t < length chart.transitions → unwrap_or (slice_get (flat_of chart).blockers t) [] ≡ blocker_ids chart t
unfolding flat_of
flat_row chart t lt =
    unwrap_or-slice_get (map (blocker_ids chart) (all_transitions chart)) t []
    ∙ get_or-map-range_with_len (blocker_ids chart) 0 (length chart.transitions) t t [] lt (omega arith)

-- a transition fires by its row where it fires by the rule
pub fires_same : (chart : Chart) (enabled : ℕ → Bool) (t : ℕ) → t < length chart.transitions → fires_by (flat_of chart) enabled t ≡ fires chart enabled t
fires_same chart enabled t lt =
    ap (λ (ids : List TransId). enabled t && not (list_any (λ b. enabled b.0) ids)) (flat_row chart t lt)
    ∙ ap (λ (b : Bool). enabled t && not b) (any_map (λ b. enabled b.0) trans_id (blockers chart t))

-- some transition of a component's list fires
any_listed : (firing test : ℕ → Bool) (ts : List ℕ) → list_any (λ t. firing t.0) (map trans_id (filter test ts)) ≡ list_any (λ t. firing t && test t) ts
any_listed firing test ts =
    any_map (λ t. firing t.0) trans_id (filter test ts)
    ∙ any_filter firing test ts
    ∙ any_agree (λ t. test t && firing t) (λ t. firing t && test t) ts (λ t m. and_comm (test t) (firing t))

-- where a state is let in, it doesn't matter what lets it out
in_first : (i l b : Bool) → (i || (b && not (i || l))) ≡ (i || (b && not l))
in_first true l b = refl
in_first false l b = refl

module _ (chart : Chart) (ok : IsAccepted chart) (enabled : ℕ → Bool) (z : ℕ) where
  -- t fires and lets z in
  abbrev lets_in : ℕ → Bool
  lets_in t = fires_by (flat_of chart) enabled t && enters chart t z

  -- t fires and lets z out
  abbrev lets_out : ℕ → Bool
  lets_out t = fires_by (flat_of chart) enabled t && leaves chart t z

  -- one that fires lets z in
  some_enters : list_any (λ t. enters chart t z) (filter (fires chart enabled) (all_transitions chart)) ≡ list_any lets_in (all_transitions chart)
  some_enters =
      any_filter (λ t. enters chart t z) (fires chart enabled) (all_transitions chart)
      ∙ any_agree (λ t. fires chart enabled t && enters chart t z) lets_in (all_transitions chart)
      (λ t m. ap (λ (f : Bool). f && enters chart t z) (sym (fires_same chart enabled t (transition_mem chart t m))))

  -- one that fires lets z in or out
  some_moves : list_any (λ t. is_above chart (scope chart t) z) (filter (fires chart enabled) (all_transitions chart)) ≡ (list_any lets_in (all_transitions chart) || list_any lets_out (all_transitions chart))
  some_moves =
      any_filter (λ t. is_above chart (scope chart t) z) (fires chart enabled) (all_transitions chart)
      ∙ any_agree (λ t. fires chart enabled t && is_above chart (scope chart t) z) (λ t. lets_in t || lets_out t) (all_transitions chart)
      (λ t m.
      ap₂ (λ (f a : Bool). f && a) (sym (fires_same chart enabled t (transition_mem chart t m))) (below_is_moved chart ok t z (transition_mem chart t m))
      ∙ and-or_distrib_left (fires_by (flat_of chart) enabled t) (enters chart t z) (leaves chart t z))
      ∙ any_or lets_in lets_out (all_transitions chart)

  -- the component's new bit, by the transitions that fire
  new_bit : (before : Bool) → is_in_after (fires_by (flat_of chart) enabled) (component_of chart z) before ≡ (list_any lets_in (all_transitions chart) || (before && not (list_any lets_out (all_transitions chart))))
  new_bit before = ap₂ (λ (i l : Bool). i || (before && not l))
      (any_listed (fires_by (flat_of chart) enabled) (λ t. enters chart t z) (all_transitions chart))
      (any_listed (fires_by (flat_of chart) enabled) (λ t. leaves chart t z) (all_transitions chart))

  -- the new tree's bit of z is the component's
  pub same_bit : (c : Tree) → IsConfiguration chart c → HaveActiveSources chart enabled c → is_in z (new_tree chart enabled c) ≡ is_in_after (fires_by (flat_of chart) enabled) (component_of chart z) (is_in z c)
  same_bit c conf active =
      walk_moves_by_rule chart enabled c z ok conf
      ∙ ap (λ (ts : List ℕ). list_any (λ t. is_in z (entry_tree chart t)) ts || (is_in z c && not (list_any (λ t. is_above chart (scope chart t) z) ts))) (walk_fires_by_rule chart enabled c ok conf active)
      ∙ ap₂ (λ (i o : Bool). i || (is_in z c && not o)) some_enters some_moves
      ∙ in_first (list_any lets_in (all_transitions chart)) (list_any lets_out (all_transitions chart)) (is_in z c)
      ∙ sym (new_bit (is_in z c))

pub flat_step : FlatStep
flat_step chart enabled c ok conf active = (
  walk_fires_by_rule chart enabled c ok conf active
      ∙ filter_agree (fires chart enabled) (fires_by (flat_of chart) enabled) (all_transitions chart) (λ t m. sym (fires_same chart enabled t (transition_mem chart t m))),
  (λ z lt. same_bit chart ok enabled z c conf active),
)
