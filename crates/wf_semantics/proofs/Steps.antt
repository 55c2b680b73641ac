-- The walk fires what the rule fires, and moves what that enters and leaves.
use Rattle.std.proofs.Common.{◌≡◌, ℕ, ◌<◌, ◌≤◌, ◌==◌, ◌||◌, ◌&&◌, not, nat_lt, Bool, true, false, List, length, filter, inl, inr, refl, sym, ap, ap₂, ◌∙◌, subst, arith, eqb-true, eq-eqb, true≢false, ltb-true, lt-ltb}
use Rattle.std.specs.List.{list_any}
use Rattle.wf_model.specs.declared.chart.Chart.{Chart}
use Rattle.wf_model.specs.declared.chart.Kind.{Kind}
use Rattle.wf_model.specs.declared.chart.Kind.TheVariants.{Basic, Or, And}
use Rattle.wf_model.specs.Tree.{kind, parent, is_or, is_above, is_among, scope, source, all_transitions}
use Rattle.wf_semantics.specs.Configuration.{Tree, root, is_in, IsConfiguration}
use Rattle.wf_semantics.specs.Entry.{entry_tree}
use Rattle.wf_semantics.specs.Walk.{first_of_scope, new_tree, fired, fired_of}
use Rattle.wf_semantics.specs.Flat.{blocks, blockers, fires, HaveActiveSources}
use Rattle.wf_model.proofs.Bools.{Mem, or_cases, or_left, or_right, and_both, and_true, any_mem, mem_any, bool_iff, bit}
use Rattle.wf_semantics.proofs.Lists.{among_mem, mem_among, mem_range, range_mem, mem_filter, filter_mem, filter_agree, find_some, find_none, find_least}
use Rattle.wf_semantics.proofs.Setting.{IsShaped, IsSetting}
use Rattle.wf_semantics.proofs.Children.{lt_or_ge}
use Rattle.wf_semantics.proofs.Facts.{IsChart}
use Rattle.wf_semantics.proofs.Charts.{IsAnd, shaped, chart_ancestry, root_above}
use Rattle.wf_semantics.proofs.Places.{IsBelow, above_low, above_compare}
use Rattle.wf_semantics.proofs.Scopes.{scope_facts}
use Rattle.wf_semantics.proofs.Walks.{Rule, fired_fires, fires_fired, new_bits}

-- t is a transition of the chart, and enabled
abbrev pub IsEnabled : Chart → (ℕ → Bool) → ℕ → Type 0
IsEnabled chart enabled t = (t < length chart.transitions) × (enabled t ≡ true)

from_not : (b : Bool) → not b ≡ true → b ≡ true → ⊥
from_not true p q = true≢false (sym p)
from_not false p q = true≢false (sym q)

to_not : (b : Bool) → (b ≡ true → ⊥) → not b ≡ true
to_not true f = absurd (f refl)
to_not false f = refl

and_no_or : (k : Kind) → k ≡ And → is_or k ≡ true → ⊥
and_no_or Basic p q = true≢false (sym q)
and_no_or Or p q = cc
and_no_or And p q = true≢false (sym q)

pub mem_transition : (chart : Chart) (t : ℕ) → t < length chart.transitions → Mem t (all_transitions chart)
mem_transition chart t lt = mem_range 0 (length chart.transitions) t (omega arith) (omega arith)

pub transition_mem : (chart : Chart) (t : ℕ) → Mem t (all_transitions chart) → t < length chart.transitions
transition_mem chart t m = omega (arith, (range_mem 0 (length chart.transitions) t m).1)

module _ (chart : Chart) (ok : IsChart chart) (enabled : ℕ → Bool) where
  pub setting : IsSetting (parent chart) (IsAnd chart) (is_above chart) (IsEnabled chart enabled) (scope chart) (source chart) (first_of_scope chart enabled)
  setting = record {
    ancestry = chart_ancestry chart ok;
    scope_above = λ t e. (scope_facts chart ok t e.0).2;
    no_scope = λ s ps b e q. and_no_or (kind chart s) ps (ap (λ (x : ℕ). is_or (kind chart x)) (sym q) ∙ (scope_facts chart ok b e.0).0);
    first_some = λ s t e.
        let w = find_some (λ t. enabled t && (scope chart t == s)) (all_transitions chart) t e in
        let v = and_both (enabled t) (scope chart t == s) w.1 in (
          (transition_mem chart t w.0, v.0),
          eqb-true (scope chart t) s v.1,
          λ b eb q. find_least (λ t. enabled t && (scope chart t == s)) 0 (length chart.transitions) t e b (mem_transition chart b eb.0)
              (and_true (enabled b) (scope chart b == s) eb.1 (eq-eqb (scope chart b) s q)),
        );
    first_none = λ s e b eb q. find_none (λ t. enabled t && (scope chart t == s)) (all_transitions chart) e b (mem_transition chart b eb.0)
        (and_true (enabled b) (scope chart b == s) eb.1 (eq-eqb (scope chart b) s q));
  }

  -- t is enabled, and nothing keeps it from firing
  abbrev pub Rules : ℕ → Type 0
  Rules t = Rule (parent chart) (IsAnd chart) (is_above chart) (IsEnabled chart enabled) (scope chart) (source chart) (first_of_scope chart enabled) (entry_tree chart) setting t

  pub fires_rule : (t : ℕ) → t < length chart.transitions → fires chart enabled t ≡ true → Rules t
  fires_rule t lt h =
      let w = and_both (enabled t) (not (list_any enabled (blockers chart t))) h in
      let none : (b : ℕ) → IsEnabled chart enabled b → blocks chart b t ≡ true → ⊥ =
      λ b eb k. from_not (list_any enabled (blockers chart t)) w.1
      (mem_any enabled b (blockers chart t) (mem_filter (λ b. blocks chart b t) (all_transitions chart) b (mem_transition chart b eb.0) k) eb.1) in (
        (lt, w.0),
        (
          (λ b eb k. none b eb (or_left (is_above chart (scope chart b) (scope chart t)) ((scope chart b == scope chart t) && nat_lt b t) k)),
          (λ b eb q. elim (lt_or_ge b t) [
            | inl l ↦ absurd (none b eb (or_right (is_above chart (scope chart b) (scope chart t)) ((scope chart b == scope chart t) && nat_lt b t)
                (and_true (scope chart b == scope chart t) (nat_lt b t) (eq-eqb (scope chart b) (scope chart t) q) (lt-ltb b t l))))
            | inr l ↦ l
          ]),
        ),
      )

  pub rule_fires : (t : ℕ) → Rules t → fires chart enabled t ≡ true
  rule_fires t r = and_true (enabled t) (not (list_any enabled (blockers chart t))) r.0.1
      (to_not (list_any enabled (blockers chart t)) (λ h.
      let w = any_mem enabled (blockers chart t) h in
      let f = filter_mem (λ b. blocks chart b t) (all_transitions chart) w.0 w.1 in
      let lt = transition_mem chart w.0 f.0 in
      elim (or_cases (is_above chart (scope chart w.0) (scope chart t)) ((scope chart w.0 == scope chart t) && nat_lt w.0 t) f.1) [
        | inl a ↦ r.1.0 w.0 (lt, w.2) a
        | inr b ↦ let v = and_both (scope chart w.0 == scope chart t) (nat_lt w.0 t) b in
            omega (arith, r.1.1 w.0 (lt, w.2) (eqb-true (scope chart w.0) (scope chart t) v.0), ltb-true w.0 t v.1)
      ]))

  -- of two transitions that fire, the scopes are above no common state
  pub fires_apart : (t u z : ℕ) → t < length chart.transitions → u < length chart.transitions → fires chart enabled t ≡ true → fires chart enabled u ≡ true →
      is_above chart (scope chart t) z ≡ true → is_above chart (scope chart u) z ≡ true → t ≡ u
  fires_apart t u z lt lu ft fu a b =
      let r = fires_rule t lt ft in
      let q = fires_rule u lu fu in
      elim (above_compare chart ok (scope chart t) (scope chart u) z a b) [
        | inl same ↦ let le : t ≤ u = r.1.1 u q.0 (sym same) in let ge : u ≤ t = q.1.1 t r.0 same in omega arith
        | inr either ↦ elim either [ inl k ↦ absurd (q.1.0 t r.0 k) | inr k ↦ absurd (r.1.0 u q.0 k) ]
      ]

  module _ (c : Tree) (conf : IsConfiguration chart c) where
    -- what fires, in the walk's order
    abbrev pub fired_first : List ℕ
    fired_first = fired (first_of_scope chart enabled) c

    tree_shaped : IsShaped (parent chart) (IsAnd chart) c
    tree_shaped = shaped chart c conf.1

    none_above : (b : ℕ) → IsEnabled chart enabled b → is_above chart (scope chart b) (root c) ≡ true → ⊥
    none_above b eb k = omega (arith, above_low chart ok (scope chart b) (root c) k, conf.0)

    under_root : (t : ℕ) → IsEnabled chart enabled t → IsBelow chart (root c) (scope chart t)
    under_root t et =
        let low = above_low chart ok (scope chart t) (source chart t) (scope_facts chart ok t et.0).2 in
        let inside = (ok.sources t et.0).1 in
        elim (lt_or_ge 0 (scope chart t)) [
          | inl pos ↦ inr (subst (λ (x : ℕ). is_above chart x (scope chart t) ≡ true) (sym conf.0) (root_above chart ok (scope chart t) pos (omega arith)))
          | inr z ↦ inl (omega (arith, conf.0))
        ]

    -- what fires on the walk is enabled, and nothing keeps it from firing
    pub fired_rules : (t : ℕ) → Mem t fired_first → Rules t
    fired_rules t m =
        let f = fired_fires (parent chart) (IsAnd chart) (is_above chart) (IsEnabled chart enabled) (scope chart) (source chart) (first_of_scope chart enabled) (entry_tree chart) setting c t tree_shaped none_above m in
        (f.0, f.2)

    pub fired_fire : (t : ℕ) → Mem t (fired_of chart enabled c) → (t < length chart.transitions) × (fires chart enabled t ≡ true)
    fired_fire t m =
        let w = filter_mem (is_among fired_first) (all_transitions chart) t m in
        (transition_mem chart t w.0, rule_fires t (fired_rules t (among_mem fired_first t w.1)))

    -- at most one fired transition has its scope above z
    pub fired_apart : (t u z : ℕ) → Mem t (fired_of chart enabled c) → Mem u (fired_of chart enabled c) → is_above chart (scope chart t) z ≡ true → is_above chart (scope chart u) z ≡ true → t ≡ u
    fired_apart t u z m n a b =
        let f = fired_fire t m in
        let g = fired_fire u n in
        fires_apart t u z f.0 g.0 f.1 g.1 a b

    rule_then_walk : HaveActiveSources chart enabled c → (t : ℕ) → t < length chart.transitions → fires chart enabled t ≡ true → Mem t fired_first
    rule_then_walk active t lt h =
        let r = fires_rule t lt h in
        fires_fired (parent chart) (IsAnd chart) (is_above chart) (IsEnabled chart enabled) (scope chart) (source chart) (first_of_scope chart enabled) (entry_tree chart) setting c t tree_shaped
        (λ b eb u. active b eb.0 eb.1) r (under_root t r.0)

    same_fires : HaveActiveSources chart enabled c → (t : ℕ) → t < length chart.transitions → is_among fired_first t ≡ fires chart enabled t
    same_fires active t lt = bool_iff (is_among fired_first t) (fires chart enabled t)
        (λ h. rule_fires t (fired_rules t (among_mem fired_first t h)))
        (λ h. mem_among fired_first t (rule_then_walk active t lt h))

    -- the transitions that fire on the walk are those that fire by the rule
    pub same_fired : HaveActiveSources chart enabled c → fired_of chart enabled c ≡ filter (fires chart enabled) (all_transitions chart)
    same_fired active = filter_agree (is_among fired_first) (fires chart enabled) (all_transitions chart) (λ t m. same_fires active t (transition_mem chart t m))

    -- the fired transitions in ascending order are those of the walk
    same_any : (p : ℕ → Bool) → list_any p fired_first ≡ list_any p (fired_of chart enabled c)
    same_any p = bool_iff (list_any p fired_first) (list_any p (fired_of chart enabled c))
        (λ h. let w = any_mem p fired_first h in
        mem_any p w.0 (fired_of chart enabled c)
        (mem_filter (is_among fired_first) (all_transitions chart) w.0 (mem_transition chart w.0 (fired_rules w.0 w.1).0.0) (mem_among fired_first w.0 w.1)) w.2)
        (λ h. let w = any_mem p (fired_of chart enabled c) h in
        mem_any p w.0 fired_first (among_mem fired_first w.0 (filter_mem (is_among fired_first) (all_transitions chart) w.0 w.1).1) w.2)

    -- a state is in after the walk where a fired transition enters it, or where it was in and none leaves it
    pub same_bits : (z : ℕ) → is_in z (new_tree chart enabled c) ≡
        (list_any (λ t. is_in z (entry_tree chart t)) (fired_of chart enabled c) || (is_in z c && not (list_any (λ t. is_above chart (scope chart t) z) (fired_of chart enabled c))))
    same_bits z =
        new_bits (parent chart) (IsAnd chart) (is_above chart) (IsEnabled chart enabled) (scope chart) (source chart) (first_of_scope chart enabled) (entry_tree chart) setting c z tree_shaped none_above
        ∙ ap₂ (λ (i o : Bool). bit i o (is_in z c)) (same_any (λ t. is_in z (entry_tree chart t))) (same_any (λ t. is_above chart (scope chart t) z))
