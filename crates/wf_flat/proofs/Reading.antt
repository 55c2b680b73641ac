-- What a part's transitions read of a view of the part is there, and what they do is bounded.
use Rattle.std.proofs.Common.{◌≡◌, ℕ, ◌<◌, ◌≤◌, cond, Bool, true, false, List, [], All, filter, length, get_or, Option, Some, None, slice_get, refl, sym, ap, ◌∙◌, subst, arith}
use Rattle.std.specs.Prelude.{is_ok, IfSome}
use Rattle.std.specs.Option.{option_map}
use Rattle.std.proofs.lemmas.Option.{slice_get-map, slice_get-get_or}
use Rattle.wf_model.specs.Limits.{max_actions}
use Rattle.wf_model.specs.declared.ids.VarId.{VarId}
use Rattle.wf_model.specs.declared.expr.Expr.{Expr}
use Rattle.wf_model.specs.declared.chart.Action.{Action}
use Rattle.wf_model.specs.declared.chart.Action.TheVariants.{Assign, Raise, Start}
use Rattle.wf_model.specs.declared.chart.Chart.{Chart}
use Rattle.wf_model.specs.declared.chart.Transition.{Transition}
use Rattle.wf_model.specs.Tree.{all_transitions}
use Rattle.wf_model.specs.Sorts.{var_sort}
use Rattle.wf_model.specs.Accepted.{IsAccepted}
use Rattle.wf_semantics.proofs.Lists.{filter_mem}
use Rattle.wf_semantics.proofs.Steps.{transition_mem}
use Rattle.wf_semantics.proofs.Children.{item_at}
use Rattle.wf_parts.specs.declared.data.PartTransition.{PartTransition}
use Rattle.wf_parts.specs.declared.data.PartData.{PartData}
use Rattle.wf_parts.specs.Known.{concerns, is_own}
use Rattle.wf_parts.specs.Parts.{part_transition, part_of, IsPart}
use Rattle.wf_expr.specs.Ints.{has_small_ints}
use Rattle.wf_expr.proofs.Small.{sorted_is_small}
use Rattle.wf_effects.proofs.Expressions.{IsExprOf, guard_of, actions_are, value_of_action}
use Rattle.wf_views.specs.Views.{View, sees}
use Rattle.wf_views.specs.Laws.{IsViewOf}
use Rattle.wf_lockstep.proofs.Firing.{trans_at, trans_of_part, at_some}
use Rattle.wf_lockstep.proofs.Readable.{part_reads, slice_mem}
use Rattle.wf_flat.specs.Firing.{CanRead, CanPerform, CanFire}

-- a transition of a part is one of the chart
pub record Found (chart : Chart) (u : ℕ) (trans : PartTransition) : Type 0 where
  pub number : ℕ
  pub whole : Transition
  pub at : slice_get chart.transitions number ≡ Some whole
  pub is : trans ≡ part_transition chart u (number, whole)

pub found : (chart : Chart) (u i : ℕ) (trans : PartTransition) → slice_get (part_of chart u).transitions i ≡ Some trans → Found chart u trans
found chart u i trans e = go (slice_get (filter (concerns chart u) (all_transitions chart)) i) refl
    (sym (slice_get-map (trans_at chart u) (filter (concerns chart u) (all_transitions chart)) i) ∙ ap (λ (l : List PartTransition). slice_get l i) (sym (trans_of_part chart u)) ∙ e)
  where
    go : (o : Option ℕ) → slice_get (filter (concerns chart u) (all_transitions chart)) i ≡ o → option_map (trans_at chart u) o ≡ Some trans → Found chart u trans
    go None q h = cc
    go (Some t) q h =
        let m = filter_mem (concerns chart u) (all_transitions chart) t (slice_mem (filter (concerns chart u) (all_transitions chart)) i t q) in
        let lt : t < length chart.transitions = transition_mem chart t m.0 in
        let w = item_at chart.transitions t lt in
        let same : trans_at chart u t ≡ trans = cc in
        record { number = t; whole = w.0; at = w.1; is = sym same ∙ at_some chart u t w.0 w.1 }

small_of : (chart : Chart) (x : Expr) (sort : Rattle.wf_model.specs.declared.value.Sort.Sort) → IsExprOf chart x sort → has_small_ints x ≡ true
small_of chart x sort of = sorted_is_small (var_sort chart) x (ap is_ok of.sorted)

module _ (chart : Chart) (ok : IsAccepted chart) (u : ℕ) (trans : PartTransition) (f : Found chart u trans) where
  small_guard : (g : Expr) → trans.guard ≡ Some g → has_small_ints g ≡ true
  small_guard g e =
      small_of chart g _ (guard_of chart f.number f.whole g ok f.at (ap (λ (q : PartTransition). q.guard) (sym f.is) ∙ e))

  pub few_actions : length trans.actions ≤ max_actions
  few_actions = ap_le (is_own chart u f.number) (ap (λ (q : PartTransition). q.actions) f.is)
    where
      ap_le : (b : Bool) → trans.actions ≡ cond b f.whole.actions [] → length trans.actions ≤ max_actions
      ap_le true e = let few = (actions_are chart f.number f.whole ok f.at).few in omega (arith, ap length e)
      ap_le false e = omega (arith, ap length e)

  small_value : (k : ℕ) (x : VarId) (value : Expr) → slice_get trans.actions k ≡ Some (Assign x value) → has_small_ints value ≡ true
  small_value k x value e = go (is_own chart u f.number) (ap (λ (q : PartTransition). slice_get q.actions k) (sym f.is) ∙ e)
    where
      go : (b : Bool) → slice_get (cond b f.whole.actions []) k ≡ Some (Assign x value) → has_small_ints value ≡ true
      go true h = let w = value_of_action chart f.whole.actions k x value (actions_are chart f.number f.whole ok f.at) h in small_of chart value w.1 w.3
      go false h = cc

module _ (chart : Chart) (ok : IsAccepted chart) (u : ℕ) (view : View) (is : IsViewOf (part_of chart u) view) where
  fire_at : (i : ℕ) (trans : PartTransition) → slice_get (part_of chart u).transitions i ≡ Some trans → CanFire (sees (part_of chart u) view).seen trans
  fire_at i trans e = record { guard = guard trans.guard refl; few = let few = few_actions chart ok u trans f in omega arith; actions = actions }
    where
      f : Found chart u trans
      f = found chart u i trans e

      guard : (o : Option Expr) → trans.guard ≡ o → IfSome o (CanRead (sees (part_of chart u) view).seen)
      guard None q = tt
      guard (Some g) q = (small_guard chart ok u trans f g q, (part_reads chart u view i trans ok is e).0 g q)

      action : (k : ℕ) (a : Action) → slice_get trans.actions k ≡ Some a → CanPerform (sees (part_of chart u) view).seen a
      action k (Assign x value) q = (small_value chart ok u trans f k x value q, (part_reads chart u view i trans ok is e).1 k x value q)
      action k (Raise event) q = tt
      action k (Start act) q = tt

      actions : All (CanPerform (sees (part_of chart u) view).seen) trans.actions
      actions k d lt = action k (get_or trans.actions k d) (slice_get-get_or trans.actions k d lt)

can_fire_of : (chart : Chart) (u : ℕ) (view : View) → IsAccepted chart → IsViewOf (part_of chart u) view → All (CanFire (sees (part_of chart u) view).seen) (part_of chart u).transitions
can_fire_of chart u view ok is k d lt = fire_at chart ok u view is k (get_or (part_of chart u).transitions k d) (slice_get-get_or (part_of chart u).transitions k d lt)

-- each transition of a part can be tried over a view of it
pub can_fire_all : (part : PartData) (view : View) → IsPart part → IsViewOf part view → All (CanFire (sees part view).seen) part.transitions
can_fire_all part view p =
    let P : PartData → Type 0 = λ part. IsViewOf part view → All (CanFire (sees part view).seen) part.transitions in
    subst P (sym p.is) (λ is. can_fire_of p.chart p.unit view p.accepted is)
