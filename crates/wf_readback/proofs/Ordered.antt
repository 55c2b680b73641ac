-- The states of an accepted chart are numbered as they stand in its text.
use Rattle.std.proofs.Common.{◌≡◌, ℕ, zero, suc, ◌+◌, ◌-◌, ◌<◌, ◌≤◌, ◌==◌, ◌⊎◌, cond, Bool, true, false, List, [], ◌∷◌, ◌++◌, length, flat_map, filter, Option, Some, refl, sym, ◌∙◌, ap, ap₂, subst, arith, inl, inr, length-append}
use Rattle.std.specs.List.{range_with_len}
use Rattle.std.proofs.lemmas.Bool.{cases_Bool, eqb-true, eq-eqb}
use Rattle.wf_model.specs.Limits.{max_depth}
use Rattle.wf_model.specs.declared.chart.Chart.{Chart}
use Rattle.wf_model.specs.Tree.{parent, children, is_child_of, is_above, ancestors_by}
use Rattle.wf_model.proofs.Bools.{or_cases, or_left, or_right}
use Rattle.wf_semantics.proofs.Children.{child_of, of_child, lt_or_ge}
use Rattle.wf_semantics.proofs.Facts.{IsChart, chart_of}
use Rattle.wf_semantics.proofs.Setting.{IsAncestry}
use Rattle.wf_semantics.proofs.Charts.{falls, chart_ancestry, root_above}
use Rattle.wf_print.specs.Nested.{depth}
use Rattle.wf_readback.proofs.Order.{states_from, IsRun, IsInOrder}
use Rattle.wf_readback.proofs.Reading.{StatesAreInOrder}
use Rattle.wf_readback.proofs.States.{depth_child}

run_join : (k : ℕ) (xs ys : List ℕ) → IsRun k xs → IsRun (k + length xs) ys → IsRun k (xs ++ ys)
run_join k [] ys h g = let same : k + 0 ≡ k = omega arith in subst (λ (n : ℕ). IsRun n ys) same g
run_join k (x ∷ xs) ys h g =
    let same : k + length (x ∷ xs) ≡ suc k + length xs = omega arith in
    (h.0, run_join (suc k) xs ys h.1 (subst (λ (n : ℕ). IsRun n ys) same g))

module _ (chart : Chart) (ok : IsChart chart) where
  abbrev n : ℕ
  n = length chart.states

  abbrev up : ℕ → Option ℕ
  up k = parent chart k

  abbrev IsUnder : ℕ → ℕ → Type 0
  IsUnder k s = is_above chart s k ≡ true

  anc : IsAncestry (parent chart) (is_above chart)
  anc = chart_ancestry chart ok

  under_parent : (k s : ℕ) → up k ≡ Some s → IsUnder k s
  under_parent k s e = anc.step k s s e ∙ or_left (s == s) (is_above chart s s) (eq-eqb s s refl)

  under_more : (k p a : ℕ) → up k ≡ Some p → IsUnder p a → IsUnder k a
  under_more k p a e h = anc.step k p a e ∙ or_right (p == a) (is_above chart a p) h

  by_parent : (k p a : ℕ) → up k ≡ Some p → IsUnder k a → (p ≡ a) ⊎ IsUnder p a
  by_parent k p a e h = elim (or_cases (p == a) (is_above chart a p) (sym (anc.step k p a e) ∙ h)) [
    | inl same ↦ inl (eqb-true p a same)
    | inr above ↦ inr above
  ]

  -- the parent of the next state is this one, or above it
  record Next (i : ℕ) : Type 0 where
    parent : ℕ
    is : up (suc i) ≡ Some parent
    near : (parent ≡ i) ⊎ IsUnder i parent

  next_parent : (i : ℕ) → suc i < n → Next i
  next_parent i within =
      let f = ok.preorder i (omega arith) in
      let same : i + 1 ≡ suc i = omega arith in
      record {
        parent = f.0;
        is = ap (parent chart) (sym same) ∙ f.1;
        near = elim (or_cases (f.0 == i) (is_above chart f.0 i) f.2) [ inl e ↦ inl (eqb-true f.0 i e) | inr above ↦ inr above ];
      }

  -- what lies under a state is left once
  leave : (s i : ℕ) → s < i → suc i < n → (IsUnder i s → ⊥) → IsUnder (suc i) s → ⊥
  leave s i low within out under =
      let f = next_parent i within in
      elim (by_parent (suc i) f.parent s f.is under) [
        | inl same ↦ elim f.near [
          | inl here ↦ omega (arith, same, here)
          | inr above ↦ out (subst (λ (p : ℕ). IsUnder i p) same above)
        ]
        | inr higher ↦ elim f.near [
          | inl here ↦ out (subst (λ (p : ℕ). IsUnder p s) here higher)
          | inr above ↦ out (anc.trans s f.parent i higher above)
        ]
      ]

  stays_left : (s a d k : ℕ) → k ≡ a + d → s < a → k < n → (IsUnder a s → ⊥) → IsUnder k s → ⊥
  stays_left s a zero k is low within out under = let same : k ≡ a = omega arith in out (subst (λ (j : ℕ). IsUnder j s) same under)
  stays_left s a (suc d) zero is low within out under = omega arith
  stays_left s a (suc d) (suc k) is low within out under =
      leave s k (omega arith) within (stays_left s a d k (omega arith) low (omega arith) out) under

  -- the children of a state among so many from a on
  abbrev kids : ℕ → ℕ → ℕ → List ℕ
  kids s a m = filter (λ k. is_child_of s (parent chart k)) (range_with_len a m)

  -- those before that are none
  skip : (s d a m more : ℕ) → m ≡ d + more → ((k : ℕ) → a ≤ k → k < a + d → up k ≡ Some s → ⊥) → kids s a m ≡ kids s (a + d) more
  skip s zero a m more is none =
      let here : a ≡ a + 0 = omega arith in
      let same : m ≡ more = omega arith in
      ap₂ (kids s) here same
  skip s (suc d) a zero more is none = absurd (omega arith)
  skip s (suc d) a (suc m) more is none =
      elim (cases_Bool (is_child_of s (parent chart a))) [
        | inl is_child ↦ absurd (none a (omega arith) (omega arith) (child_of s (parent chart a) is_child))
        | inr is_none ↦
            let place : a + 1 + d ≡ a + suc d = omega arith in
            ap (λ (b : Bool). cond b (a ∷ kids s (a + 1) m) (kids s (a + 1) m)) is_none
            ∙ skip s d (a + 1) m more (omega arith) (λ k low high e. none k (omega arith) (omega arith) e)
            ∙ ap (λ (j : ℕ). kids s j more) place
      ]

  -- a state and all below it are a run
  record IsTree (levels s : ℕ) : Type 0 where
    end : ℕ
    run : IsRun s (states_from chart levels s)
    size : s + length (states_from chart levels s) ≡ end
    low : s < end
    within : end ≤ n
    inside : (k : ℕ) → s < k → k < end → IsUnder k s
    out : end < n → IsUnder end s → ⊥

  -- and so are the trees of its children from a on
  record AreTrees (levels s a m : ℕ) : Type 0 where
    end : ℕ
    run : IsRun a (flat_map (states_from chart levels) (kids s a m))
    size : a + length (flat_map (states_from chart levels) (kids s a m)) ≡ end
    low : a ≤ end
    within : end ≤ n
    inside : (k : ℕ) → a ≤ k → k < end → IsUnder k s
    out : end < n → IsUnder end s → ⊥

  not_both : (s p : ℕ) → IsUnder p s → IsUnder s p → ⊥
  not_both s p h g = omega (arith, anc.low s p h, anc.low p s g)

  -- what stands behind the tree of a child, and is still under the state, is a child too
  next_child : (s a e : ℕ) → s < a → up a ≡ Some s → a < e → ((k : ℕ) → a < k → k < e → IsUnder k a) → e < n → (IsUnder e a → ⊥) → IsUnder e s → up e ≡ Some s
  next_child s a zero low child long inside within out under = absurd (omega arith)
  next_child s a (suc i) low child long inside within out under =
      let f = next_parent i within in
      elim (by_parent (suc i) f.parent s f.is under) [
        | inl same ↦ f.is ∙ ap Some same
        | inr higher ↦ absurd (elim (lt_or_ge a i) [
          | inl later ↦
              let under_a = inside i later (omega arith) in
              elim f.near [
                | inl here ↦ out (under_more (suc i) f.parent a f.is (subst (λ (j : ℕ). IsUnder j a) (sym here) under_a))
                | inr above ↦ elim (anc.compare a f.parent i under_a above) [
                  | inl same ↦ out (under_parent (suc i) a (f.is ∙ ap Some (sym same)))
                  | inr order ↦ elim order [
                    | inl below_a ↦ out (under_more (suc i) f.parent a f.is below_a)
                    | inr above_a ↦ over_a f.parent higher above_a
                  ]
                ]
              ]
          | inr first ↦
              let is_a : i ≡ a = omega arith in
              elim f.near [
                | inl here ↦ out (under_parent (suc i) a (f.is ∙ ap Some (here ∙ is_a)))
                | inr above ↦ over_a f.parent higher (subst (λ (j : ℕ). IsUnder j f.parent) is_a above)
              ]
        ])
      ]
    where
      over_a : (p : ℕ) → IsUnder p s → IsUnder a p → ⊥
      over_a p higher above = elim (by_parent a s p child above) [
        | inl same ↦ omega (arith, anc.low s p higher, same)
        | inr over ↦ not_both s p higher over
      ]

  trees : (levels s : ℕ) → ((c : ℕ) → c < n → up c ≡ Some s → IsTree levels c) → (fuel a m : ℕ) → a + m ≡ n → m ≤ fuel → s < a → (a < n → IsUnder a s → up a ≡ Some s) → AreTrees levels s a m
  trees levels s own fuel a zero is few low edge = record {
    end = a;
    run = tt;
    size = omega arith;
    low = omega arith;
    within = omega arith;
    inside = λ k from to. absurd (omega arith);
    out = λ more under. omega arith;
  }
  trees levels s own zero a (suc m) is few low edge = absurd (omega arith)
  trees levels s own (suc fuel) a (suc m) is few low edge =
      elim (cases_Bool (is_child_of s (parent chart a))) [
        | inl is_child ↦
            let child = child_of s (parent chart a) is_child in
            let t = own a (omega arith) child in
            let size = t.size in
            let long = t.low in
            let fits = t.within in
            let more = n - t.end in
            let none : kids s (a + 1) m ≡ kids s (a + 1 + (t.end - (a + 1))) more =
            skip s (t.end - (a + 1)) (a + 1) m more (omega (arith, long, fits))
            (λ k from to e. elim (by_parent k s a e (t.inside k (omega arith) (omega (arith, long)))) [
              | inl same ↦ omega (arith, same)
              | inr under ↦ omega (arith, anc.low a s under)
            ]) in
            let there : a + 1 + (t.end - (a + 1)) ≡ t.end = omega (arith, long) in
            let whole : kids s a (suc m) ≡ a ∷ kids s t.end more =
            ap (λ (b : Bool). cond b (a ∷ kids s (a + 1) m) (kids s (a + 1) m)) is_child ∙ ap (λ (l : List ℕ). a ∷ l) (none ∙ ap (λ (j : ℕ). kids s j more) there) in
            let r = trees levels s own fuel t.end more (omega (arith, fits)) (omega (arith, long)) (omega (arith, long)) (λ w under. next_child s a t.end low child long t.inside w (t.out w) under) in
            let first = states_from chart levels a in
            let others = flat_map (states_from chart levels) (kids s t.end more) in
            let runs : IsRun a (first ++ others) = run_join a first others t.run (subst (λ (j : ℕ). IsRun j others) (sym size) r.run) in
            let sizes : a + length (first ++ others) ≡ r.end = omega (arith, length-append first others, size, r.size) in
            record {
              end = r.end;
              run = subst (λ (l : List ℕ). IsRun a (flat_map (states_from chart levels) l)) (sym whole) runs;
              size = ap (λ (l : List ℕ). a + length (flat_map (states_from chart levels) l)) whole ∙ sizes;
              low = omega (arith, long, r.low);
              within = r.within;
              inside = λ k from to. elim (lt_or_ge k t.end) [
                | inl early ↦ elim (lt_or_ge a k) [
                  | inl later ↦ anc.trans s a k (under_parent a s child) (t.inside k later early)
                  | inr here ↦ let same : a ≡ k = omega arith in subst (λ (j : ℕ). IsUnder j s) same (under_parent a s child)
                ]
                | inr late ↦ r.inside k late to
              ];
              out = r.out;
            }
        | inr is_none ↦
            let out_here : IsUnder a s → ⊥ = λ under. differ (sym (of_child s (parent chart a) (edge (omega arith) under)) ∙ is_none) in
            let none : kids s a (suc m) ≡ [] = skip s (suc m) a (suc m) 0 (omega arith) (λ k from to e. stays_left s a (k - a) k (omega arith) low (omega arith) out_here (under_parent k s e)) in
            record {
              end = a;
              run = subst (λ (l : List ℕ). IsRun a (flat_map (states_from chart levels) l)) (sym none) tt;
              size = ap (λ (l : List ℕ). a + length (flat_map (states_from chart levels) l)) none ∙ omega arith;
              low = omega arith;
              within = omega arith;
              inside = λ k from to. absurd (omega arith);
              out = λ w under. out_here under;
            }
      ]
    where
      differ : true ≡ false → ⊥
      differ e = cc

  first_child : (s : ℕ) → suc s < n → IsUnder (suc s) s → up (suc s) ≡ Some s
  first_child s within under =
      let f = next_parent s within in
      elim (by_parent (suc s) f.parent s f.is under) [
        | inl same ↦ f.is ∙ ap Some same
        | inr higher ↦ absurd (elim f.near [
          | inl here ↦ omega (arith, anc.low s f.parent higher, here)
          | inr above ↦ not_both s f.parent higher above
        ])
      ]

  children_are : (s : ℕ) → s < n → children chart s ≡ kids s (suc s) (n - suc s)
  unfolding children
  children_are s within = skip s (suc s) 0 n (n - suc s) (omega arith) (λ k from to e. omega (arith, falls chart ok k s e)) ∙ ap (λ (j : ℕ). kids s j (n - suc s)) (zero_plus (suc s))
    where
      zero_plus : (k : ℕ) → 0 + k ≡ k
      zero_plus k = omega arith

  states_are : (levels s : ℕ) → states_from chart (suc levels) s ≡ s ∷ flat_map (states_from chart levels) (children chart s)
  unfolding states_from
  states_are levels s = refl

  tree : (levels s : ℕ) → s < n → levels + depth chart s ≡ max_depth → IsTree levels s
  tree zero s within deep = absurd (omega (arith, ok.few_ancestors s within, deep))
  tree (suc levels) s within deep =
      let r = trees levels s (λ c there child. tree levels c there (omega (arith, deep, depth_child chart ok c s child))) (n - suc s) (suc s) (n - suc s) (omega arith) (omega arith) (omega arith) (first_child s) in
      let whole : states_from chart (suc levels) s ≡ s ∷ flat_map (states_from chart levels) (kids s (suc s) (n - suc s)) =
      states_are levels s ∙ ap (λ (l : List ℕ). s ∷ flat_map (states_from chart levels) l) (children_are s within) in
      record {
        end = r.end;
        run = subst (IsRun s) (sym whole) (refl, r.run);
        size = omega (arith, ap length whole, r.size);
        low = omega (arith, r.low);
        within = r.within;
        inside = λ k from to. r.inside k (omega arith) to;
        out = r.out;
      }

  depth_root : depth chart 0 ≡ 0
  unfolding ancestors_by
  depth_root = refl

  pub in_order : IsInOrder chart
  in_order =
      let t = tree max_depth 0 ok.some_state (omega (arith, depth_root)) in (
        t.run,
        elim (lt_or_ge t.end n) [
          | inl early ↦ absurd (t.out early (root_above chart ok t.end t.low early))
          | inr all ↦ omega (arith, t.size, t.within)
        ],
      )

pub states_are_in_order : StatesAreInOrder
states_are_in_order chart accepted = in_order chart (chart_of chart accepted)
