-- Where the states of an accepted chart stand.
use Rattle.std.proofs.Common.{◌≡◌, ℕ, ◌<◌, ◌≤◌, ◌==◌, ◌||◌, ◌⊎◌, true, false, Some, None}
use Rattle.wf_model.specs.declared.chart.Chart.{Chart}
use Rattle.wf_model.specs.Tree.{parent, is_above, is_among}
use Rattle.wf_semantics.specs.Configuration.{Tree, Trees, root, roots, is_in, is_in_some, IsTreeOf}
use Rattle.wf_model.proofs.Bools.{not_true}
use Rattle.wf_semantics.proofs.Ancestors as ancestors
use Rattle.wf_semantics.proofs.Setting.{AreShaped}
use Rattle.wf_semantics.proofs.Nodes as nodes
use Rattle.wf_semantics.proofs.Nodes.{Under}
use Rattle.wf_semantics.proofs.Facts.{IsChart}
use Rattle.wf_semantics.proofs.Charts.{IsAnd, falls, chart_ancestry, shaped}

-- z is a or below it
abbrev pub IsBelow : Chart → ℕ → ℕ → Type 0
IsBelow chart a z = Under (is_above chart) a z

module _ (chart : Chart) (ok : IsChart chart) where
  -- one step up
  pub above_step : (s p a : ℕ) → parent chart s ≡ Some p → is_above chart a s ≡ ((p == a) || is_above chart a p)
  above_step s p a e = (chart_ancestry chart ok).step s p a e

  pub above_none : (s a : ℕ) → parent chart s ≡ None → is_above chart a s ≡ false
  above_none s a e = not_true (is_above chart a s) (ancestors.above_top (parent chart) (falls chart ok) s a e)

  pub above_low : (a s : ℕ) → is_above chart a s ≡ true → a < s
  above_low a s h = (chart_ancestry chart ok).low a s h

  pub above_trans : (a b c : ℕ) → is_above chart a b ≡ true → is_above chart b c ≡ true → is_above chart a c ≡ true
  above_trans a b c h k = (chart_ancestry chart ok).trans a b c h k

  -- of two states above a third one is the other or above it
  pub above_compare : (a b s : ℕ) → is_above chart a s ≡ true → is_above chart b s ≡ true → (a ≡ b) ⊎ ((is_above chart a b ≡ true) ⊎ (is_above chart b a ≡ true))
  above_compare a b s h k = (chart_ancestry chart ok).compare a b s h k

  pub parent_above : (s p : ℕ) → parent chart s ≡ Some p → is_above chart p s ≡ true
  parent_above s p e = nodes.parent_above (parent chart) (IsAnd chart) (is_above chart) (chart_ancestry chart ok) s p e

  -- what is above a child is its parent or above that
  pub above_child : (s p a : ℕ) → parent chart s ≡ Some p → is_above chart a s ≡ true → IsBelow chart a p
  above_child s p a e h = nodes.above_child (parent chart) (IsAnd chart) (is_above chart) (chart_ancestry chart ok) s p a e h

  pub below_child : (s p z : ℕ) → parent chart s ≡ Some p → IsBelow chart s z → is_above chart p z ≡ true
  below_child s p z e u = nodes.below_child (parent chart) (IsAnd chart) (is_above chart) (chart_ancestry chart ok) s p z e u

  pub under_low : (a z : ℕ) → IsBelow chart a z → a ≤ z
  under_low a z u = nodes.under_low (parent chart) (IsAnd chart) (is_above chart) (chart_ancestry chart ok) a z u

  pub under_trans : (a b z : ℕ) → IsBelow chart a b → IsBelow chart b z → IsBelow chart a z
  under_trans a b z u v = nodes.under_trans (parent chart) (IsAnd chart) (is_above chart) (chart_ancestry chart ok) a b z u v

  -- two children of one state with a common state at or below them are the same
  pub siblings : (a b p z : ℕ) → parent chart a ≡ Some p → parent chart b ≡ Some p → IsBelow chart a z → IsBelow chart b z → a ≡ b
  siblings a b p z d e u v = nodes.siblings (parent chart) (IsAnd chart) (is_above chart) (chart_ancestry chart ok) a b p z d e u v

  -- a state between s and something at or below s's child r is at or below r
  pub between : (r s x z : ℕ) → parent chart r ≡ Some s → is_above chart s x ≡ true → is_above chart x z ≡ true → IsBelow chart r z → IsBelow chart r x
  between r s x z e h k u = nodes.between (parent chart) (IsAnd chart) (is_above chart) (chart_ancestry chart ok) r s x z e h k u

  -- the nodes of a tree are at or below its root
  pub node_under : (c : Tree) (z : ℕ) → IsTreeOf chart c → is_in z c ≡ true → IsBelow chart (root c) z
  node_under c z h i = nodes.node_under (parent chart) (IsAnd chart) (is_above chart) (chart_ancestry chart ok) c z (shaped chart c h) i

  -- x is at or below one of the roots
  abbrev pub IsBelowSome : Trees → ℕ → Type 0
  IsBelowSome cs x = nodes.UnderSome (parent chart) (IsAnd chart) (is_above chart) (chart_ancestry chart ok) cs x

  pub below_some_above : (s : ℕ) (cs : Trees) (x : ℕ) → AreShaped (parent chart) (IsAnd chart) s cs → IsBelowSome cs x → is_above chart s x ≡ true
  below_some_above s cs x sh u = nodes.under_some_above (parent chart) (IsAnd chart) (is_above chart) (chart_ancestry chart ok) s cs x sh u

  pub below_some_root : (s : ℕ) (cs : Trees) (z : ℕ) → AreShaped (parent chart) (IsAnd chart) s cs → is_in_some z cs ≡ true → IsBelowSome cs z
  below_some_root s cs z sh h = nodes.some_under_root (parent chart) (IsAnd chart) (is_above chart) (chart_ancestry chart ok) s cs z sh h

  -- what is at or below a is not at or below the roots of other children of a's parent
  pub apart_roots : (s a : ℕ) (cs : Trees) (z : ℕ) → parent chart a ≡ Some s → is_among (roots cs) a ≡ false → AreShaped (parent chart) (IsAnd chart) s cs → IsBelow chart a z → IsBelowSome cs z → ⊥
  apart_roots s a cs z e ne sh u v = nodes.apart_roots (parent chart) (IsAnd chart) (is_above chart) (chart_ancestry chart ok) s a cs z e ne sh u v
