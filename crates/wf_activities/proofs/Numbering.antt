-- The numbers of what a step starts, one start after another.
use Rattle.std.proofs.Common.{◌≡◌, ℕ, zero, suc, ◌+◌, ◌<◌, ◌≤◌, ◌==◌, cond, Bool, true, false, List, [], ◌∷◌, ◌++◌, length, map, filter, take, drop, get_or, set, Option, Some, refl, sym, ◌∙◌, ap, ap₂, arith, eq-eqb, eqb-true, true≢false, get_or-set_other, drop-cons, add-one, append_assoc, append-nil}
use Rattle.std.specs.List.{slice_get}
use Rattle.std.specs.Option.{option_map, option_map_or}
use Rattle.std.proofs.lemmas.List.{drop_all}
use Rattle.std.proofs.lemmas.List.Filters.{length-filter_more}
use Rattle.std.proofs.lemmas.Grind.{get_or-set_at}
use Rattle.wf_model.specs.declared.ids.ActId.{ActId}
use Rattle.wf_model.specs.declared.chart.Activity.{Activity}
use Rattle.wf_model.specs.declared.chart.Chart.{Chart}
use Rattle.wf_model.specs.declared.update.StartAt.{StartAt}
use Rattle.wf_semantics.specs.Run.{act_unit, is_at, numbered}
use Rattle.wf_semantics.specs.Admission.{is_act_at}
use Rattle.wf_activities.specs.UnitItems.{UnitItems}
use Rattle.wf_activities.specs.Stock.{items_in}

module _ (chart : Chart) (a : ℕ) (act : Activity) (counts : List ℕ) (there : slice_get chart.acts a ≡ Some act) (within : act.unit.0 < length counts) where
  unit_is : act_unit chart a ≡ Some act.unit.0
  unit_is = ap (option_map (λ (x : Activity). x.unit.0)) there

  pub number_at : get_or (set counts act.unit.0 (get_or counts act.unit.0 0 + 1)) act.unit.0 0 ≡ option_map_or (λ u. get_or counts u 0) (act_unit chart a) 0 + 1
  number_at =
      get_or-set_at counts act.unit.0 act.unit.0 (get_or counts act.unit.0 0 + 1) 0 refl within
      ∙ ap (λ (o : Option ℕ). option_map_or (λ u. get_or counts u 0) o 0 + 1) (sym unit_is)

  pub counted_at : (u : ℕ) → get_or (set counts act.unit.0 (get_or counts act.unit.0 0 + 1)) u 0 ≡ cond (is_act_at chart u a) (get_or counts u 0 + 1) (get_or counts u 0)
  counted_at u = go (act.unit.0 == u) refl ∙ ap (λ (b : Bool). cond b (get_or counts u 0 + 1) (get_or counts u 0)) (sym (ap (λ (o : Option ℕ). option_map_or (λ unit. unit == u) o false) unit_is))
    where
      go : (p : Bool) → (act.unit.0 == u) ≡ p → get_or (set counts act.unit.0 (get_or counts act.unit.0 0 + 1)) u 0 ≡ cond p (get_or counts u 0 + 1) (get_or counts u 0)
      go true q =
          let same : act.unit.0 ≡ u = eqb-true act.unit.0 u q in
          get_or-set_at counts act.unit.0 u (get_or counts act.unit.0 0 + 1) 0 (sym same) within ∙ ap (λ (v : ℕ). get_or counts v 0 + 1) same
      go false q = get_or-set_other counts act.unit.0 u (get_or counts act.unit.0 0 + 1) 0 (λ r. true≢false (sym (eq-eqb act.unit.0 u (sym r)) ∙ q))

-- how many items a unit has, in the table
pub length_at : (units : List UnitItems) (u : ℕ) → get_or (map (λ i. length i.items) units) u 0 ≡ length (items_in units u)
length_at [] u = refl
length_at (x ∷ xs) zero = refl
length_at (x ∷ xs) (suc u) = length_at xs u

pub cond_few : (b : Bool) (n : ℕ) → cond b (n + 1) n ≤ n + 1
cond_few true n = omega arith
cond_few false n = omega arith

-- one start more is counted at its unit
pub counted_starts : (chart : Chart) (starts : List StartAt) (i : ℕ) (d : StartAt) (u was now first : ℕ) → i < length starts → now ≡ cond (is_act_at chart u (get_or starts i d).act.0) (was + 1) was
    → was ≡ first + length (filter (is_at chart u) (take i starts)) → now ≡ first + length (filter (is_at chart u) (take (i + 1) starts))
counted_starts chart starts i d u was now first lt counted before = go (is_act_at chart u (get_or starts i d).act.0) counted (length-filter_more (is_at chart u) starts i d lt)
  where
    go : (b : Bool) → now ≡ cond b (was + 1) was → length (filter (is_at chart u) (take (i + 1) starts)) ≡ length (filter (is_at chart u) (take i starts)) + cond b 1 0 → now ≡ first + length (filter (is_at chart u) (take (i + 1) starts))
    go true e long = omega arith
    go false e long = omega arith

-- one start has its number
pub numbered_step : (chart : Chart) (starts : List StartAt) (i : ℕ) (d : StartAt) (counts after : List ℕ) (numbers total : List (ActId × ℕ)) (number : ℕ) → i < length starts
    → number ≡ option_map_or (λ u. get_or counts u 0) (act_unit chart (get_or starts i d).act.0) 0 + 1
    → ((u : ℕ) → get_or after u 0 ≡ cond (is_act_at chart u (get_or starts i d).act.0) (get_or counts u 0 + 1) (get_or counts u 0))
    → numbers ++ numbered chart (λ u. get_or counts u 0) (drop i starts) ≡ total
    → (numbers ++ ((get_or starts i d).act, number) ∷ []) ++ numbered chart (λ u. get_or after u 0) (drop (i + 1) starts) ≡ total
numbered_step chart starts i d counts after numbers total number lt is counted before =
    let s : StartAt = get_or starts i d in
    let next : drop i starts ≡ s ∷ drop (i + 1) starts = drop-cons starts i d lt ∙ ap (λ (j : ℕ). s ∷ drop j starts) (sym (add-one i)) in
    append_assoc numbers ((s.act, number) ∷ []) (numbered chart (λ u. get_or after u 0) (drop (i + 1) starts))
    ∙ ap₂ (λ (n : ℕ) (f : ℕ → ℕ). numbers ++ ((s.act, n) ∷ numbered chart f (drop (i + 1) starts))) is (λ k u. counted u k)
    ∙ ap (λ (l : List StartAt). numbers ++ numbered chart (λ u. get_or counts u 0) l) (sym next)
    ∙ before

-- at the end all have theirs
pub numbered_all : (chart : Chart) (units : List UnitItems) (starts : List StartAt) (i : ℕ) (first counts : List ℕ) (numbers : List (ActId × ℕ)) → length starts ≤ i → first ≡ map (λ i. length i.items) units
    → numbers ++ numbered chart (λ u. get_or counts u 0) (drop i starts) ≡ numbered chart (λ u. get_or first u 0) starts
    → numbers ≡ numbered chart (λ u. length (items_in units u)) starts
numbered_all chart units starts i first counts numbers le made h =
    sym (append-nil numbers)
    ∙ ap (λ (l : List StartAt). numbers ++ numbered chart (λ u. get_or counts u 0) l) (sym (drop_all i starts le))
    ∙ h
    ∙ ap (λ (f : ℕ → ℕ). numbered chart f starts) (λ k u. (ap (λ (l : List ℕ). get_or l u 0) made ∙ length_at units u) k)
