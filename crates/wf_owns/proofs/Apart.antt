-- Of a part's transitions with one scope at most one fires, on every view; so few do.
use Rattle.std.proofs.Common.{◌≡◌, ℕ, zero, suc, ◌+◌, ◌<◌, ◌≤◌, ◌==◌, ◌&&◌, not, nat_lt, eqb, cond, Bool, true, false, List, [], ◌∷◌, length, map, filter, find, Option, Some, None, unwrap_or, inl, inr, refl, sym, ap, ◌∙◌, arith, eqb-true, eq-eqb, true≢false, lt-ltb}
use Rattle.std.specs.Option.{option_map_or}
use Rattle.std.specs.List.{list_any, range_with_len, IsDistinct, AllByRecursion}
use Rattle.std.proofs.lemmas.Map.Steps.{length-le_from_distinct_below}
use Rattle.wf_model.specs.Limits.{max_fired}
use Rattle.wf_model.specs.declared.ids.TransId.{TransId}
use Rattle.wf_model.specs.declared.chart.Chart.{Chart}
use Rattle.wf_parts.specs.declared.data.PartTransition.{PartTransition}
use Rattle.wf_model.specs.Tree.{all_transitions, scope, source, target, is_or, kind, is_above, ancestors, is_among}
use Rattle.wf_model.specs.Accepted.{IsAccepted}
use Rattle.wf_semantics.specs.Snapshot.{Snapshot}
use Rattle.wf_semantics.specs.Flat.{blocks, blockers}
use Rattle.wf_model.proofs.Bools.{Mem, and_both, and_true, or_right, mem_any, any_mem, any_map, not_true}
use Rattle.wf_semantics.proofs.Lists.{range_mem, filter_mem, mem_filter, find_some, mem_among}
use Rattle.wf_semantics.proofs.Children.{item_at}
use Rattle.wf_semantics.proofs.Steps.{mem_transition, transition_mem}
use Rattle.wf_semantics.proofs.Facts.{chart_of}
use Rattle.wf_semantics.proofs.Charts.{falls}
use Rattle.wf_semantics.proofs.Ancestors.{below_low}
use Rattle.wf_parts.specs.Components.{blocker_ids}
use Rattle.wf_parts.specs.Known.{concerns}
use Rattle.wf_parts.specs.Parts.{part_of}
use Rattle.wf_views.specs.OwnSteps.{is_ready_in, is_enabled_in, is_fired_in}
use Rattle.wf_lockstep.proofs.Numbered.{filter_filter}
use Rattle.wf_lockstep.proofs.Firing.{trans_at, at_some, trans_found}
use Rattle.wf_lockstep.proofs.Within.{mine}
use Rattle.wf_model.specs.Ids.{trans_id}

-- a function that tells apart the numbers that pass
distinct_images : (f : ℕ → ℕ) (p : ℕ → Bool) (a n : ℕ) → ((s t : ℕ) → s < t → t < a + n → p s ≡ true → p t ≡ true → f s ≡ f t → ⊥) → IsDistinct eqb (map f (filter p (range_with_len a n)))
unfolding IsDistinct
distinct_images f p a zero h = tt
distinct_images f p a (suc n) h = go (p a) refl (distinct_images f p (a + 1) n (λ s t lt k. h s t lt (omega arith)))
  where
    later : p a ≡ true → (ts : List ℕ) → ((t : ℕ) → Mem t ts → (a < t) × (t < a + suc n) × (p t ≡ true)) → AllByRecursion (λ y. eqb (f a) y ≡ false) (map f ts)
    later e [] m = tt
    later e (t ∷ ts) m =
        let w = m t (inl refl) in
        (not_true (eqb (f a) (f t)) (λ q. h a t w.0 w.1 e w.2 (eqb-true (f a) (f t) q)), later e ts (λ s k. m s (inr k)))

    go : (b : Bool) → p a ≡ b → IsDistinct eqb (map f (filter p (range_with_len (a + 1) n))) → IsDistinct eqb (map f (cond b (a ∷ filter p (range_with_len (a + 1) n)) (filter p (range_with_len (a + 1) n))))
    go true e ih = (later e (filter p (range_with_len (a + 1) n)) (λ t m. let w = filter_mem p (range_with_len (a + 1) n) t m in let r = range_mem (a + 1) n t w.0 in (omega arith, omega arith, w.1)), ih)
    go false e ih = ih

module _ (chart : Chart) (u : ℕ) (ok : IsAccepted chart) (snap : Snapshot) where
  -- the scope is below the source
  scope_low : (t : ℕ) → t < length chart.transitions → scope chart t < source chart t
  scope_low t lt = go (find (λ a. is_or (kind chart a) && is_above chart a (target chart t)) (ancestors chart (source chart t))) refl
    where
      go : (o : Option ℕ) → find (λ a. is_or (kind chart a) && is_above chart a (target chart t)) (ancestors chart (source chart t)) ≡ o → unwrap_or o 0 < source chart t
      go None e = ((chart_of chart ok).sources t lt).0
      go (Some a) e =
          let m = find_some (λ a. is_or (kind chart a) && is_above chart a (target chart t)) (ancestors chart (source chart t)) a e in
          below_low (Rattle.wf_model.specs.Tree.parent chart) (length chart.states) (λ s p le e. falls chart (chart_of chart ok) s p e) (source chart t) (source chart t) a (let s = ((chart_of chart ok).sources t lt).1 in omega (arith, s)) (mem_among (ancestors chart (source chart t)) a m.0)

  pub scope_small : (t : ℕ) → t < length chart.transitions → scope chart t < max_fired
  scope_small t lt = let a = scope_low t lt in let b = ((chart_of chart ok).sources t lt).1 in let c = (chart_of chart ok).few_states in omega (arith, a, b, c)

  blockers_at : (t : ℕ) → t < length chart.transitions → (trans_at chart u t).blockers ≡ blocker_ids chart t
  blockers_at t lt = let w = item_at chart.transitions t lt in ap (λ (p : PartTransition). p.blockers) (at_some chart u t w.0 w.1)

  -- the test of `mine`
  abbrev fires_own : ℕ → Bool
  fires_own t = (trans_at chart u t).own && is_fired_in (part_of chart u) snap (trans_at chart u t)

  abbrev passes : ℕ → Bool
  passes t = fires_own t && concerns chart u t

  apart : (s t : ℕ) → s < t → t < 0 + length chart.transitions → passes s ≡ true → passes t ≡ true → scope chart s ≡ scope chart t → ⊥
  apart s t lt below ps pt same =
      let here : t < length chart.transitions = omega (arith, below) in
      let there : s < length chart.transitions = omega (arith, below, lt) in
      let ps2 = and_both (fires_own s) (concerns chart u s) ps in
      let pt2 = and_both (fires_own t) (concerns chart u t) pt in
      let fs = and_both (trans_at chart u s).own (is_fired_in (part_of chart u) snap (trans_at chart u s)) ps2.0 in
      let ft = and_both (trans_at chart u t).own (is_fired_in (part_of chart u) snap (trans_at chart u t)) pt2.0 in
      let rs = and_both (is_ready_in snap (trans_at chart u s)) (not (list_any (λ b. is_enabled_in (part_of chart u) snap b.0) (trans_at chart u s).blockers)) fs.1 in
      let rt = and_both (is_ready_in snap (trans_at chart u t)) (not (list_any (λ b. is_enabled_in (part_of chart u) snap b.0) (trans_at chart u t).blockers)) ft.1 in
      let enabled : is_enabled_in (part_of chart u) snap s ≡ true = ap (λ (o : Option PartTransition). option_map_or (is_ready_in snap) o false) (trans_found chart u s there ps2.1) ∙ rs.0 in
      let blocked : blocks chart s t ≡ true = or_right (is_above chart (scope chart s) (scope chart t)) ((scope chart s == scope chart t) && nat_lt s t) (and_true (scope chart s == scope chart t) (nat_lt s t) (eq-eqb (scope chart s) (scope chart t) same) (lt-ltb s t lt)) in
      let listed : list_any (λ b. is_enabled_in (part_of chart u) snap b.0) (trans_at chart u t).blockers ≡ true =
      ap (list_any (λ (b : TransId). is_enabled_in (part_of chart u) snap b.0)) (blockers_at t here)
      ∙ any_map (λ (b : TransId). is_enabled_in (part_of chart u) snap b.0) trans_id (blockers chart t)
      ∙ mem_any (is_enabled_in (part_of chart u) snap) s (blockers chart t) (mem_filter (λ b. blocks chart b t) (all_transitions chart) s (mem_transition chart s there) blocked) enabled in
      true≢false (sym rt.1 ∙ ap not listed)

  mine_is : mine chart u snap ≡ filter passes (all_transitions chart)
  mine_is = filter_filter fires_own (concerns chart u) (all_transitions chart)

  length_map : (f : ℕ → ℕ) (xs : List ℕ) → length (map f xs) ≡ length xs
  length_map f [] = refl
  length_map f (x ∷ xs) = ap suc (length_map f xs)

  pub mine_few : length (mine chart u snap) ≤ max_fired
  mine_few =
      let few : length (map (scope chart) (filter passes (all_transitions chart))) ≤ max_fired =
      length-le_from_distinct_below (map (scope chart) (filter passes (all_transitions chart))) max_fired (distinct_images (scope chart) passes 0 (length chart.transitions) apart) (λ q h.
      let w = any_mem (λ t. eqb q (scope chart t)) (filter passes (all_transitions chart)) (sym (any_map (eqb q) (scope chart) (filter passes (all_transitions chart))) ∙ h) in
      let m = filter_mem passes (all_transitions chart) w.0 w.1 in
      let e : q ≡ scope chart w.0 = eqb-true q (scope chart w.0) w.2 in
      let s = scope_small w.0 (transition_mem chart w.0 m.0) in omega (arith, e, s)) in
      let a : length (mine chart u snap) ≡ length (filter passes (all_transitions chart)) = ap (λ (l : List ℕ). length l) mine_is in
      let b = length_map (scope chart) (filter passes (all_transitions chart)) in
      omega (arith, few, a, b)
