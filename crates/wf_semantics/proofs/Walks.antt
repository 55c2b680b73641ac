-- What fires on the walk, and the tree that it leaves.
use Rattle.std.proofs.Common.{◌≡◌, ℕ, ◌<◌, ◌≤◌, ◌==◌, ◌||◌, Bool, true, false, List, ◌++◌, Option, Some, None, inl, inr, refl, sym, ◌∙◌, subst, arith, eqb-true, true≢false, ap₂}
use Rattle.std.specs.List.{list_any}
use Rattle.wf_semantics.specs.Configuration.{Tree, Trees, Leaf, OrNode, AndNode, NoTrees, More, root, is_in, is_in_some}
use Rattle.wf_semantics.specs.Walk.{entered, fired_here, walked, all_walked, fired, all_fired}
use Rattle.wf_model.proofs.Bools.{or_cases, Mem, mem_cases, mem_left, mem_right, any-append, any_mem, not_true, bit, bit_same, bit_root, bit_fired, bit_more}
use Rattle.wf_semantics.proofs.Setting.{IsShaped, AreShaped, IsSetting}
use Rattle.wf_semantics.proofs.Nodes.{Under, parent_above, above_child, below_child, under_low, under_trans, node_under, apart_roots, some_under_root, UnderSome, under_some_above, under_some_trans, between}

module _ (up : ℕ → Option ℕ) (par : ℕ → Type 0) (above : ℕ → ℕ → Bool) (E : ℕ → Type 0) (sc src : ℕ → ℕ) (first : ℕ → Option ℕ) (entry : ℕ → Tree)
    (set : IsSetting up par above E sc src first) where
  -- no enabled transition has a scope above r
  abbrev pub NoneAbove : ℕ → Type 0
  NoneAbove r = (b : ℕ) → E b → above (sc b) r ≡ true → ⊥

  -- no enabled transition has a scope above t's, and none of the same scope has a lower number
  abbrev pub Clear : ℕ → Type 0
  Clear t = ((b : ℕ) → E b → above (sc b) (sc t) ≡ true → ⊥) × ((b : ℕ) → E b → sc b ≡ sc t → t ≤ b)

  abbrev pub Fires : ℕ → ℕ → Type 0
  Fires r t = E t × Under above r (sc t) × Clear t

  -- the sources of enabled transitions with a scope at or below r are in the tree
  abbrev pub Sourced : ℕ → Tree → Type 0
  Sourced r c = (b : ℕ) → E b → Under above r (sc b) → is_in (src b) c ≡ true

  -- ---- what fires on the walk fires by the rule

  none_above_child : (s r : ℕ) → up r ≡ Some s → NoneAbove s → ((b : ℕ) → E b → sc b ≡ s → ⊥) → NoneAbove r
  none_above_child s r h na nn b eb k = elim (above_child up par above set.ancestry r s (sc b) h k) [ inl e ↦ nn b eb e | inr q ↦ na b eb q ]

  lift : (s r t : ℕ) → up r ≡ Some s → Fires r t → Fires s t
  lift s r t h f = (f.0, inr (below_child up par above set.ancestry r s (sc t) h f.1), f.2)

  fires_here : (s t : ℕ) → first s ≡ Some t → NoneAbove s → Fires s t
  fires_here s t e na =
      let w = set.first_some s t e in
      (w.0, inl (sym w.1), ((λ b eb k. na b eb (subst (λ (x : ℕ). above (sc b) x ≡ true) w.1 k)), (λ b eb k. w.2 b eb (k ∙ w.1))))

  by_or : (s r t : ℕ) (o : Option ℕ) (ts : List ℕ) → first s ≡ o → up r ≡ Some s → NoneAbove s → (NoneAbove r → Mem t ts → Fires r t) → Mem t (fired_here o ts) → Fires s t
  by_or s r t None ts e h na ih k = lift s r t h (ih (none_above_child s r h na (set.first_none s e)) k)
  by_or s r t (Some u) ts e h na ih k = elim k [ inl q ↦ subst (λ (x : ℕ). Fires s x) q (fires_here s u e na) | inr z ↦ absurd z ]

  mutual
    unfolding fired all_fired

    pub fired_fires : (c : Tree) (t : ℕ) → IsShaped up par c → NoneAbove (root c) → Mem t (fired first c) → Fires (root c) t
    fired_fires (Leaf s) t sh na m = absurd m
    fired_fires (OrNode s c) t sh na m = by_or s (root c) t (first s) (fired first c) refl sh.0 na (λ n k. fired_fires c t sh.1 n k) m
    fired_fires (AndNode s cs) t sh na m = all_fire s cs t sh.0 sh.1 na m

    pub all_fire : (s : ℕ) (cs : Trees) (t : ℕ) → par s → AreShaped up par s cs → NoneAbove s → Mem t (all_fired first cs) → Fires s t
    all_fire s NoTrees t ps sh na m = absurd m
    all_fire s (More c cs) t ps sh na m = elim (mem_cases t (fired first c) (all_fired first cs) m) [
      | inl a ↦ lift s (root c) t sh.0 (fired_fires c t sh.2 (none_above_child s (root c) sh.0 na (set.no_scope s ps)) a)
      | inr b ↦ all_fire s cs t ps sh.3 na b
    ]

  pub all_under : (s : ℕ) (cs : Trees) (t : ℕ) → par s → AreShaped up par s cs → NoneAbove s → Mem t (all_fired first cs) → UnderSome up par above set.ancestry cs (sc t)
  unfolding all_fired
  all_under s NoTrees t ps sh na m = m
  all_under s (More c cs) t ps sh na m = elim (mem_cases t (fired first c) (all_fired first cs) m) [
    | inl a ↦ inl (fired_fires c t sh.2 (none_above_child s (root c) sh.0 na (set.no_scope s ps)) a).1
    | inr b ↦ inr (all_under s cs t ps sh.3 na b)
  ]

  -- ---- what fires by the rule fires on the walk

  -- the sources of enabled transitions with a scope below one of the roots are in the trees
  abbrev pub AllSourced : Trees → Type 0
  AllSourced cs = (b : ℕ) → E b → UnderSome up par above set.ancestry cs (sc b) → is_in_some (src b) cs ≡ true

  abbrev pub Rule : ℕ → Type 0
  Rule t = E t × Clear t

  source_below : (r b : ℕ) → E b → Under above r (sc b) → r < src b
  source_below r b eb u = omega (arith, under_low up par above set.ancestry r (sc b) u, set.ancestry.low (sc b) (src b) (set.scope_above b eb))

  sourced_child : (s : ℕ) (c : Tree) → up (root c) ≡ Some s → Sourced s (OrNode s c) → Sourced (root c) c
  sourced_child s c h so b eb u = elim (or_cases (s == src b) (is_in (src b) c) (so b eb (inr (below_child up par above set.ancestry (root c) s (sc b) h u)))) [
    | inl e ↦ absurd (omega (arith, eqb-true s (src b) e, source_below (root c) b eb u, set.ancestry.low s (root c) (parent_above up par above set.ancestry (root c) s h)))
    | inr r ↦ r
  ]

  sourced_all : (s : ℕ) (cs : Trees) → AreShaped up par s cs → Sourced s (AndNode s cs) → AllSourced cs
  sourced_all s cs sh so b eb u =
      let a = under_some_above up par above set.ancestry s cs (sc b) sh u in
      elim (or_cases (s == src b) (is_in_some (src b) cs) (so b eb (inr a))) [
        | inl e ↦ absurd (omega (arith, eqb-true s (src b) e, source_below s b eb (inr a)))
        | inr r ↦ r
      ]

  sourced_first : (s : ℕ) (c : Tree) (cs : Trees) → AreShaped up par s (More c cs) → AllSourced (More c cs) → Sourced (root c) c
  sourced_first s c cs sh so b eb u = elim (or_cases (is_in (src b) c) (is_in_some (src b) cs) (so b eb (inl u))) [
    | inl e ↦ e
    | inr r ↦ absurd (apart_roots up par above set.ancestry s (root c) cs (src b) sh.0 sh.1 sh.3
        (under_trans up par above set.ancestry (root c) (sc b) (src b) u (inr (set.scope_above b eb)))
        (some_under_root up par above set.ancestry s cs (src b) sh.3 r))
  ]

  sourced_rest : (s : ℕ) (c : Tree) (cs : Trees) → AreShaped up par s (More c cs) → AllSourced (More c cs) → AllSourced cs
  sourced_rest s c cs sh so b eb u = elim (or_cases (is_in (src b) c) (is_in_some (src b) cs) (so b eb (inr u))) [
    | inl e ↦ absurd (apart_roots up par above set.ancestry s (root c) cs (src b) sh.0 sh.1 sh.3
        (node_under up par above set.ancestry c (src b) sh.2 e)
        (under_some_trans up par above set.ancestry cs (sc b) (src b) u (set.scope_above b eb)))
    | inr r ↦ r
  ]

  -- the scope lies below the child that the source is below
  scope_in_child : (s r t : ℕ) → up r ≡ Some s → E t → above s (sc t) ≡ true → Under above r (src t) → Under above r (sc t)
  scope_in_child s r t h et a u = between up par above set.ancestry r s (sc t) (src t) h a (set.scope_above t et) u

  by_or_back : (s : ℕ) (c : Tree) (t : ℕ) (o : Option ℕ) (ts : List ℕ) → first s ≡ o → up (root c) ≡ Some s → IsShaped up par c → Sourced s (OrNode s c) → Rule t → Under above s (sc t) → (Sourced (root c) c → Under above (root c) (sc t) → Mem t ts) → Mem t (fired_here o ts)
  by_or_back s c t None ts e h sh so ru u ih =
      let so' = sourced_child s c h so in
      elim u [
        | inl q ↦ absurd (set.first_none s e t ru.0 (sym q))
        | inr a ↦ elim (or_cases (s == src t) (is_in (src t) c) (so t ru.0 (inr a))) [
          | inl k ↦ absurd (omega (arith, eqb-true s (src t) k, source_below s t ru.0 (inr a)))
          | inr k ↦ ih so' (scope_in_child s (root c) t h ru.0 a (node_under up par above set.ancestry c (src t) sh k))
        ]
      ]
  by_or_back s c t (Some x) ts e h sh so ru u ih =
      let w = set.first_some s x e in
      elim u [
        | inl q ↦ let le : x ≤ t = w.2 t ru.0 (sym q) in
            let ge : t ≤ x = ru.1.1 x w.0 (w.1 ∙ q) in
            inl (omega arith)
        | inr a ↦ absurd (ru.1.0 x w.0 (subst (λ (y : ℕ). above y (sc t) ≡ true) (sym w.1) a))
      ]

  mutual
    unfolding fired all_fired

    pub fires_fired : (c : Tree) (t : ℕ) → IsShaped up par c → Sourced (root c) c → Rule t → Under above (root c) (sc t) → Mem t (fired first c)
    fires_fired (Leaf s) t sh so ru u = omega (arith, eqb-true s (src t) (so t ru.0 u), source_below s t ru.0 u)
    fires_fired (OrNode s c) t sh so ru u = by_or_back s c t (first s) (fired first c) refl sh.0 sh.1 so ru u (λ so' u'. fires_fired c t sh.1 so' ru u')
    fires_fired (AndNode s cs) t sh so ru u = elim u [
      | inl q ↦ absurd (set.no_scope s sh.0 t ru.0 (sym q))
      | inr a ↦ elim (or_cases (s == src t) (is_in_some (src t) cs) (so t ru.0 (inr a))) [
        | inl k ↦ absurd (omega (arith, eqb-true s (src t) k, source_below s t ru.0 (inr a)))
        | inr k ↦ fires_some s cs t sh.1 (sourced_all s cs sh.1 so) ru a k
      ]
    ]

    pub fires_some : (s : ℕ) (cs : Trees) (t : ℕ) → AreShaped up par s cs → AllSourced cs → Rule t → above s (sc t) ≡ true → is_in_some (src t) cs ≡ true → Mem t (all_fired first cs)
    fires_some s NoTrees t sh so ru a k = true≢false (sym k)
    fires_some s (More c cs) t sh so ru a k = elim (or_cases (is_in (src t) c) (is_in_some (src t) cs) k) [
      | inl e ↦ mem_left t (fired first c) (all_fired first cs)
          (fires_fired c t sh.2 (sourced_first s c cs sh so) ru (scope_in_child s (root c) t sh.0 ru.0 a (node_under up par above set.ancestry c (src t) sh.2 e)))
      | inr r ↦ mem_right t (fired first c) (all_fired first cs) (fires_some s cs t sh.3 (sourced_rest s c cs sh so) ru a r)
    ]

  -- ---- the tree that the walk leaves

  abbrev pub goes_in : ℕ → List ℕ → Bool
  goes_in z ts = list_any (λ t. is_in z (entry t)) ts

  abbrev pub goes_out : ℕ → List ℕ → Bool
  goes_out z ts = list_any (λ t. above (sc t) z) ts

  -- no scope that is below r is above r
  not_out : (r : ℕ) (ts : List ℕ) → ((t : ℕ) → Mem t ts → Under above r (sc t)) → (z : ℕ) → z ≤ r → goes_out z ts ≡ false
  not_out r ts f z le = not_true (goes_out z ts) (λ h. let w = any_mem (λ t. above (sc t) z) ts h in omega (arith, under_low up par above set.ancestry r (sc w.0) (f w.0 w.1), set.ancestry.low (sc w.0) z w.2))

  out_under : (c : Tree) → IsShaped up par c → NoneAbove (root c) → (z : ℕ) → goes_out z (fired first c) ≡ true → Under above (root c) z
  out_under c sh na z h = let w = any_mem (λ t. above (sc t) z) (fired first c) h in
      under_trans up par above set.ancestry (root c) (sc w.0) z (fired_fires c w.0 sh na w.1).1 (inr w.2)

  out_under_some : (s : ℕ) (cs : Trees) → par s → AreShaped up par s cs → NoneAbove s → (z : ℕ) → goes_out z (all_fired first cs) ≡ true → UnderSome up par above set.ancestry cs z
  out_under_some s cs ps sh na z h = let w = any_mem (λ t. above (sc t) z) (all_fired first cs) h in
      under_some_trans up par above set.ancestry cs (sc w.0) z (all_under s cs w.0 ps sh na w.1) w.2

  abbrev pub Bit : ℕ → List ℕ → Bool → Bool
  Bit z ts before = bit (goes_in z ts) (goes_out z ts) before

  bit_append : (z : ℕ) (xs ys : List ℕ) (b : Bool) → bit (goes_in z xs || goes_in z ys) (goes_out z xs || goes_out z ys) b ≡ Bit z (xs ++ ys) b
  bit_append z xs ys b = ap₂ (λ (i o : Bool). bit i o b) (sym (any-append (λ t. is_in z (entry t)) xs ys)) (sym (any-append (λ t. above (sc t) z) xs ys))

  bits_or : (s : ℕ) (c : Tree) (z : ℕ) (o : Option ℕ) → first s ≡ o → up (root c) ≡ Some s → IsShaped up par c → NoneAbove s →
      (NoneAbove (root c) → is_in z (walked first entry c) ≡ Bit z (fired first c) (is_in z c)) →
      ((s == z) || is_in z (entered entry o (walked first entry c))) ≡ Bit z (fired_here o (fired first c)) ((s == z) || is_in z c)
  bits_or s c z None e h sh na ih =
      let na' = none_above_child s (root c) h na (set.first_none s e) in
      bit_root (s == z) (is_in z (walked first entry c)) (goes_in z (fired first c)) (goes_out z (fired first c)) (is_in z c) (ih na')
      (λ q. not_out (root c) (fired first c) (λ t m. (fired_fires c t sh na' m).1) z
      (omega (arith, eqb-true s z q, set.ancestry.low s (root c) (parent_above up par above set.ancestry (root c) s h))))
  bits_or s c z (Some x) e h sh na ih =
      let w = set.first_some s x e in
      bit_fired (s == z) (is_in z (entry x)) (is_in z c) (above (sc x) z)
      (λ q. not_true (above (sc x) z) (λ k. omega (arith, eqb-true s z q, w.1, set.ancestry.low (sc x) z k)))
      (λ q. subst (λ (y : ℕ). above y z ≡ true) (sym w.1) (below_child up par above set.ancestry (root c) s z h (node_under up par above set.ancestry c z sh q)))

  mutual
    unfolding fired all_fired walked all_walked

    pub new_bits : (c : Tree) (z : ℕ) → IsShaped up par c → NoneAbove (root c) → is_in z (walked first entry c) ≡ Bit z (fired first c) (is_in z c)
    new_bits (Leaf s) z sh na = bit_same (s == z)
    new_bits (OrNode s c) z sh na = bits_or s c z (first s) refl sh.0 sh.1 na (λ n. new_bits c z sh.1 n)
    new_bits (AndNode s cs) z sh na =
        bit_root (s == z) (is_in_some z (all_walked first entry cs)) (goes_in z (all_fired first cs)) (goes_out z (all_fired first cs)) (is_in_some z cs) (all_new_bits s cs z sh.0 sh.1 na)
        (λ q. not_out s (all_fired first cs) (λ t m. (all_fire s cs t sh.0 sh.1 na m).1) z (omega (arith, eqb-true s z q)))

    pub all_new_bits : (s : ℕ) (cs : Trees) (z : ℕ) → par s → AreShaped up par s cs → NoneAbove s → is_in_some z (all_walked first entry cs) ≡ Bit z (all_fired first cs) (is_in_some z cs)
    all_new_bits s NoTrees z ps sh na = refl
    all_new_bits s (More c cs) z ps sh na =
        let na' = none_above_child s (root c) sh.0 na (set.no_scope s ps) in
        bit_more (is_in z (walked first entry c)) (is_in_some z (all_walked first entry cs)) (goes_in z (fired first c)) (goes_out z (fired first c)) (is_in z c)
        (goes_in z (all_fired first cs)) (goes_out z (all_fired first cs)) (is_in_some z cs)
        (new_bits c z sh.2 na') (all_new_bits s cs z ps sh.3 na)
        (λ k. not_true (is_in_some z cs) (λ q. apart_roots up par above set.ancestry s (root c) cs z sh.0 sh.1 sh.3 (out_under c sh.2 na' z k) (some_under_root up par above set.ancestry s cs z sh.3 q)))
        (λ k. not_true (is_in z c) (λ q. apart_roots up par above set.ancestry s (root c) cs z sh.0 sh.1 sh.3 (node_under up par above set.ancestry c z sh.2 q) (out_under_some s cs ps sh.3 na z k)))
        ∙ bit_append z (fired first c) (all_fired first cs) (is_in z c || is_in_some z cs)
