-- What an entry tree has, state by state.
use Rattle.std.proofs.Common.{◌≡◌, ℕ, ◌+◌, ◌<◌, ◌==◌, ◌||◌, ◌&&◌, cond, Bool, true, false, List, length, map, get_or, Some, None, refl, sym, ◌∙◌, ap, ap₂, eqb-true, eq-eqb, true≢false}
use Rattle.std.specs.Option.{option_map_or}
use Rattle.std.specs.List.{range_with_len}
use Rattle.wf_model.proofs.Rows.{row_at}
use Rattle.wf_model.specs.declared.chart.Chart.{Chart}
use Rattle.wf_model.specs.declared.chart.Kind.{Kind}
use Rattle.wf_model.specs.Accepted.{IsAccepted}
use Rattle.wf_model.specs.Tree.{kind, parent, scope, target, is_above}
use Rattle.wf_semantics.specs.Configuration.{is_in}
use Rattle.wf_semantics.specs.Entry.{entry_tree, child_towards}
use Rattle.wf_semantics.specs.Picks.{picked_by}
use Rattle.wf_model.proofs.Bools.{not_true}
use Rattle.wf_semantics.proofs.Facts.{chart_of}
use Rattle.wf_semantics.proofs.Children.{or_of}
use Rattle.wf_semantics.proofs.Charts.{falls}
use Rattle.wf_semantics.proofs.Scopes.{scope_facts}
use Rattle.wf_semantics.proofs.Grown.{entry_fits, towards_picks}
use Rattle.wf_semantics.proofs.Places.{above_none}
use Rattle.wf_semantics.proofs.Towards.{entry_root, entry_below}
use Rattle.wf_semantics.proofs.Tables.{tree_bit, towards_test}

module _ (chart : Chart) (ok : IsAccepted chart) where
  -- the child that is entered hangs under the scope
  top_parent : (t : ℕ) → t < length chart.transitions → parent chart (child_towards chart (target chart t) (scope chart t)) ≡ Some (scope chart t)
  top_parent t lt = ap (parent chart) (sym (entry_root chart (chart_of chart ok) t)) ∙ (entry_fits chart (chart_of chart ok) t lt).0

  or_same : (a b p : Bool) → (a && p) || (b && p) ≡ ((a || b) && p)
  or_same true true true = refl
  or_same true true false = refl
  or_same true false true = refl
  or_same true false false = refl
  or_same false b p = refl

  is_top : (t z p : ℕ) → t < length chart.transitions → parent chart z ≡ Some p →
      (child_towards chart (target chart t) (scope chart t) == z) ≡ ((p == scope chart t) && picked_by (kind chart p) (child_towards chart (target chart t) p) z)
  is_top t z p lt up = go (p == scope chart t) refl
    where
      top : ℕ
      top = child_towards chart (target chart t) (scope chart t)

      go : (b : Bool) → (p == scope chart t) ≡ b → (top == z) ≡ (b && picked_by (kind chart p) (child_towards chart (target chart t) p) z)
      go true e =
          let same : scope chart t ≡ p = sym (eqb-true p (scope chart t) e) in
          ap (λ x. child_towards chart (target chart t) x == z) same
          ∙ ap (λ (k : Kind). picked_by k (child_towards chart (target chart t) p) z) (sym (ap (kind chart) (sym same) ∙ or_of (kind chart (scope chart t)) (scope_facts chart (chart_of chart ok) t lt).0))
      go false e = not_true (top == z) (λ h.
          let at : parent chart z ≡ Some (scope chart t) = ap (parent chart) (sym (eqb-true top z h)) ∙ top_parent t lt in
          let both : Some p ≡ Some (scope chart t) = sym up ∙ at in
          let same : p ≡ scope chart t = cc in
          true≢false (sym (eq-eqb p (scope chart t) same) ∙ e))

  -- a child of p is entered where p is the scope or entered, and the way leads there
  pub entry_bit : (t z p : ℕ) → t < length chart.transitions → parent chart z ≡ Some p →
      is_in z (entry_tree chart t) ≡ (((p == scope chart t) || is_in p (entry_tree chart t)) && picked_by (kind chart p) (child_towards chart (target chart t) p) z)
  entry_bit t z p lt up =
      tree_bit chart (chart_of chart ok) (child_towards chart (target chart t)) (towards_picks chart (chart_of chart ok) (target chart t)) (child_towards chart (target chart t) (scope chart t)) z
      ∙ ap₂ (λ (a b : Bool). a || b) (is_top t z p lt up)
      (ap (λ o. option_map_or (λ q. is_in q (entry_tree chart t) && picked_by (kind chart q) (child_towards chart (target chart t) q) z) o false) up)
      ∙ or_same (p == scope chart t) (is_in p (entry_tree chart t)) (picked_by (kind chart p) (child_towards chart (target chart t) p) z)

  -- a state without parent is not entered
  pub entry_none : (t z : ℕ) → t < length chart.transitions → parent chart z ≡ None → is_in z (entry_tree chart t) ≡ false
  entry_none t z lt up = not_true (is_in z (entry_tree chart t)) (λ h.
      true≢false (sym (entry_below chart (chart_of chart ok) t z lt h) ∙ above_none chart (chart_of chart ok) z (scope chart t) up))

  -- the child towards x, as it is tested
  pub towards_read : (x p k : ℕ) → parent chart k ≡ Some p → (child_towards chart x p == k) ≡ cond (is_above chart p x) ((k == x) || is_above chart k x) (k == (p + 1))
  towards_read x p k up = towards_test chart (chart_of chart ok) x p k up

  pub child_high : (p k : ℕ) → parent chart k ≡ Some p → p < k
  child_high p k up = falls chart (chart_of chart ok) k p up

  -- whether z is entered, by what is known of its parent p
  pub entered_by : (t z p scope_at target_at : ℕ) (row : List Bool) (from picked : Bool) → t < length chart.transitions → parent chart z ≡ Some p → scope_at ≡ scope chart t → target_at ≡ target chart t
      → row ≡ map (λ s. is_in s (entry_tree chart t)) (range_with_len 0 z)
      → from ≡ ((p == scope_at) || get_or row p false) → picked ≡ picked_by (kind chart p) (child_towards chart target_at p) z
      → (from && picked) ≡ is_in z (entry_tree chart t)
  entered_by t z p scope_at target_at row from picked lt up sc tg rows f g =
      let before : get_or row p false ≡ is_in p (entry_tree chart t) = row_at (λ s. is_in s (entry_tree chart t)) z p false row rows (child_high p z up) in
      ap₂ (λ (a b : Bool). a && b)
      (f ∙ ap₂ (λ (x : ℕ) (b : Bool). (p == x) || b) sc before)
      (g ∙ ap (λ x. picked_by (kind chart p) (child_towards chart x p) z) tg)
      ∙ sym (entry_bit t z p lt up)
