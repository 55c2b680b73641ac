-- The states that are in by default, one after another.
use Rattle.std.proofs.Common.{◌≡◌, ℕ, ◌+◌, ◌<◌, ◌==◌, ◌||◌, ◌&&◌, Bool, true, false, List, map, get_or, Option, Some, None, refl, sym, ◌∙◌, ap, ap₂, arith, eqb-true, eq-eqb}
use Rattle.std.specs.List.{range_with_len}
use Rattle.std.specs.Option.{option_map_or}
use Rattle.wf_model.specs.declared.chart.Kind.{Kind}
use Rattle.wf_model.specs.declared.chart.Kind.TheVariants.{Or}
use Rattle.wf_model.specs.declared.chart.Chart.{Chart}
use Rattle.wf_model.specs.Accepted.{IsAccepted}
use Rattle.wf_model.specs.Tree.{kind, parent}
use Rattle.wf_semantics.specs.Configuration.{is_in}
use Rattle.wf_semantics.specs.Entry.{default_tree, first_child}
use Rattle.wf_semantics.specs.Picks.{picked_by}
use Rattle.wf_model.proofs.Bools.{not_true}
use Rattle.wf_semantics.proofs.Facts.{chart_of}
use Rattle.wf_semantics.proofs.Charts.{falls}
use Rattle.wf_semantics.proofs.Grown.{first_picks}
use Rattle.wf_semantics.proofs.Tables.{first_is_next, tree_bit}
use Rattle.wf_model.proofs.Rows.{row_at}

pub flip : (a b : ℕ) → (a == b) ≡ (b == a)
flip a b = go (a == b) refl
  where
    other : (y : Bool) → (b == a) ≡ y → (a == b) ≡ false → false ≡ (b == a)
    other true f e = sym e ∙ eq-eqb a b (sym (eqb-true b a f)) ∙ sym f
    other false f e = sym f

    go : (x : Bool) → (a == b) ≡ x → (a == b) ≡ (b == a)
    go true e = e ∙ sym (eq-eqb b a (sym (eqb-true a b e)))
    go false e = e ∙ other (b == a) refl e

module _ (chart : Chart) (accepted : IsAccepted chart) where
  pub default_low : (p z : ℕ) → parent chart z ≡ Some p → p < z
  default_low p z up = falls chart (chart_of chart accepted) z p up

  -- the first child of an Or state is the state after it
  pub first_pick : (p z : ℕ) → kind chart p ≡ Or → parent chart z ≡ Some p → (z == (p + 1)) ≡ picked_by (kind chart p) (first_child chart p) z
  first_pick p z o up =
      flip z (p + 1) ∙ ap (λ n. n == z) (sym (first_is_next chart (chart_of chart accepted) p z up)) ∙ ap (λ (k : Kind). picked_by k (first_child chart p) z) (sym o)

  bits : (z : ℕ) → is_in z (default_tree chart 0) ≡ ((0 == z) || option_map_or (λ p. is_in p (default_tree chart 0) && picked_by (kind chart p) (first_child chart p) z) (parent chart z) false)
  bits z = tree_bit chart (chart_of chart accepted) (first_child chart) (first_picks chart (chart_of chart accepted)) 0 z

  pub default_child : (z p : ℕ) (row : List Bool) (picked : Bool) → parent chart z ≡ Some p → row ≡ map (λ s. is_in s (default_tree chart 0)) (range_with_len 0 z)
      → picked ≡ picked_by (kind chart p) (first_child chart p) z → (get_or row p false && picked) ≡ is_in z (default_tree chart 0)
  default_child z p row picked up rows is =
      let low : p < z = default_low p z up in
      let not_root : (0 == z) ≡ false = not_true (0 == z) (λ h. omega (arith, eqb-true 0 z h)) in
      ap₂ (λ (a b : Bool). a && b) (row_at (λ s. is_in s (default_tree chart 0)) z p false row rows low) is
      ∙ sym (bits z
      ∙ ap₂ (λ (b : Bool) (o : Option ℕ). b || option_map_or (λ p. is_in p (default_tree chart 0) && picked_by (kind chart p) (first_child chart p) z) o false) not_root up)

  pub default_top : (z : ℕ) → parent chart z ≡ None → (z == 0) ≡ is_in z (default_tree chart 0)
  default_top z up =
      flip z 0 ∙ sym (bits z ∙ ap (λ (o : Option ℕ). (0 == z) || option_map_or (λ p. is_in p (default_tree chart 0) && picked_by (kind chart p) (first_child chart p) z) o false) up ∙ or_none (0 == z))
    where
      or_none : (b : Bool) → (b || false) ≡ b
      or_none true = refl
      or_none false = refl
