-- Entries that may come in the order of their admission may come unit by unit too.
use Rattle.std.proofs.Common.{◌≡◌, ◌≢◌, ◌≤◌, ℕ, zero, suc, ◌+◌, ◌==◌, ◌&&◌, ◌||◌, Bool, true, false, List, [], ◌∷◌, ◌++◌, length, is_ok, filter, flat_map, refl, sym, ◌∙◌, ap, ap₂, subst, inl, inr, arith, append-nil, append_assoc}
use Rattle.std.proofs.Math.Bool.{or-false}
use Rattle.std.proofs.lemmas.Bool.{cases_Bool, eqb-true}
use Rattle.std.proofs.lemmas.List.Folds.{list_any-append}
use Rattle.std.specs.List.{range_with_len}
use Rattle.wf_model.specs.declared.chart.Chart.{Chart}
use Rattle.wf_model.specs.declared.outer.Outer.{Outer}
use Rattle.wf_model.specs.declared.outer.Outer.TheVariants.{Happen, Complete}
use Rattle.wf_model.specs.declared.outer.Entry.{Entry}
use Rattle.wf_semantics.specs.Run.{CentralState}
use Rattle.wf_semantics.specs.Admission.{completes, is_pending, may_be_admitted, may_come_after, may_come}
use Rattle.wf_model.proofs.Bools.{and_both, and_true}
use Rattle.wf_semantics.specs.Standing.{in_unit_order}

-- the entries may come behind those that are pending
abbrev pub Comes : Chart → CentralState → (pending xs : List Entry) → Type 0
Comes chart c pending xs = may_come_after chart c.items pending xs ≡ true

pub comes-append : (chart : Chart) (c : CentralState) (pending xs ys : List Entry) → Comes chart c pending xs → Comes chart c (pending ++ xs) ys → Comes chart c pending (xs ++ ys)
comes-append chart c pending [] ys first then = subst (λ (p : List Entry). Comes chart c p ys) (append-nil pending) then
comes-append chart c pending (x ∷ xs) ys first then =
    let parts = and_both (is_ok (may_be_admitted chart c.items pending x.unit.0 x.outer)) (may_come_after chart c.items (pending ++ x ∷ []) xs) first in
    and_true (is_ok (may_be_admitted chart c.items pending x.unit.0 x.outer)) (may_come_after chart c.items (pending ++ x ∷ []) (xs ++ ys)) parts.0
    (comes-append chart c (pending ++ x ∷ []) xs ys parts.1 (subst (λ (p : List Entry). Comes chart c p ys) (sym (append_assoc pending (x ∷ []) xs)) then))

-- both complete the same items of unit u
abbrev pub Alike : ℕ → (ps qs : List Entry) → Type 0
Alike u ps qs = (n : ℕ) → is_pending ps u n ≡ is_pending qs u n

-- the test of `is_pending`
abbrev pub is_done_by : ℕ → ℕ → Entry → Bool
is_done_by u n x = (x.unit.0 == u) && completes n x.outer

pending-append : (ps qs : List Entry) (u n : ℕ) → is_pending (ps ++ qs) u n ≡ (is_pending ps u n || is_pending qs u n)
pending-append ps qs u n = list_any-append (is_done_by u n) ps qs

alike-more : (u : ℕ) (ps qs : List Entry) (x : Entry) → Alike u ps qs → Alike u (ps ++ x ∷ []) (qs ++ x ∷ [])
alike-more u ps qs x same n =
    pending-append ps (x ∷ []) u n ∙ ap (λ b. b || is_pending (x ∷ []) u n) (same n) ∙ sym (pending-append qs (x ∷ []) u n)

other_none : (u : ℕ) (x : Entry) (n : ℕ) → (x.unit.0 == u) ≡ false → is_pending (x ∷ []) u n ≡ false
other_none u x n other = ap (λ b. (b && completes n x.outer) || false) other

alike-other : (u : ℕ) (ps qs : List Entry) (x : Entry) → (x.unit.0 == u) ≡ false → Alike u ps qs → Alike u (ps ++ x ∷ []) qs
alike-other u ps qs x other same n =
    pending-append ps (x ∷ []) u n ∙ ap (λ b. is_pending ps u n || b) (other_none u x n other) ∙ or-false (is_pending ps u n) ∙ same n

alike_admitted : (chart : Chart) (c : CentralState) (u : ℕ) (ps qs : List Entry) (outer : Outer) → Alike u ps qs → may_be_admitted chart c.items ps u outer ≡ may_be_admitted chart c.items qs u outer
unfolding may_be_admitted
alike_admitted chart c u ps qs (Happen e) same = refl
alike_admitted chart c u ps qs (Complete n a outputs) same = rw (same n) refl

-- the entries of one unit
abbrev pub of_unit : ℕ → List Entry → List Entry
of_unit u xs = filter (λ x. x.unit.0 == u) xs

comes-of_unit : (chart : Chart) (c : CentralState) (u : ℕ) (ps qs xs : List Entry) → Alike u ps qs → Comes chart c ps xs → Comes chart c qs (of_unit u xs)
comes-of_unit chart c u ps qs [] same come = refl
comes-of_unit chart c u ps qs (x ∷ xs) same come =
    let parts = and_both (is_ok (may_be_admitted chart c.items ps x.unit.0 x.outer)) (may_come_after chart c.items (ps ++ x ∷ []) xs) come in
    elim (cases_Bool (x.unit.0 == u)) [
      | inl here ↦
          let alike : Alike x.unit.0 ps qs = subst (λ (v : ℕ). Alike v ps qs) (sym (eqb-true x.unit.0 u here)) same in
          let admitted : is_ok (may_be_admitted chart c.items qs x.unit.0 x.outer) ≡ true = sym (ap is_ok (alike_admitted chart c x.unit.0 ps qs x.outer alike)) ∙ parts.0 in
          rw here (and_true (is_ok (may_be_admitted chart c.items qs x.unit.0 x.outer)) (may_come_after chart c.items (qs ++ x ∷ []) (of_unit u xs)) admitted
          (comes-of_unit chart c u (ps ++ x ∷ []) (qs ++ x ∷ []) xs (alike-more u ps qs x same) parts.1))
      | inr other ↦ rw other (comes-of_unit chart c u (ps ++ x ∷ []) qs xs (alike-other u ps qs x other same) parts.1)
    ]

-- the entries of one unit complete no item of another
none_of : (u v : ℕ) (n : ℕ) (xs : List Entry) → u ≢ v → is_pending (of_unit u xs) v n ≡ false
none_of u v n [] apart = refl
none_of u v n (x ∷ xs) apart =
    elim (cases_Bool (x.unit.0 == u)) [
      | inl here ↦
          rw here (elim (cases_Bool (x.unit.0 == v)) [
            | inl there ↦ absurd (apart (sym (eqb-true x.unit.0 u here) ∙ eqb-true x.unit.0 v there))
            | inr other ↦ rw other (none_of u v n xs apart)
          ])
      | inr there ↦ rw there (none_of u v n xs apart)
    ]

-- unit by unit from this one on, where those before complete no item of these units
comes-from : (chart : Chart) (c : CentralState) (xs : List Entry) → Comes chart c [] xs → (at len : ℕ) (qs : List Entry) → ((u n : ℕ) → at ≤ u → is_pending qs u n ≡ false)
    → Comes chart c qs (flat_map (λ u. of_unit u xs) (range_with_len at len))
comes-from chart c xs come at zero qs none = refl
comes-from chart c xs come at (suc len) qs none =
    let alike : Alike at [] qs = λ n. sym (none at n (omega arith)) in
    let none_after : (u n : ℕ) → at + 1 ≤ u → is_pending (qs ++ of_unit at xs) u n ≡ false =
    λ u n h. let apart : at ≢ u = omega arith in
    pending-append qs (of_unit at xs) u n ∙ ap₂ (λ a b. a || b) (none u n (omega arith)) (none_of at u n xs apart) in
    comes-append chart c qs (of_unit at xs) (flat_map (λ u. of_unit u xs) (range_with_len (at + 1) len))
    (comes-of_unit chart c at [] qs xs alike come)
    (comes-from chart c xs come (at + 1) len (qs ++ of_unit at xs) none_after)

-- what is pending may come unit by unit
pub ordered_may_come : (chart : Chart) (c : CentralState) (entries : List Entry) → may_come chart c.items entries ≡ true → may_come chart c.items (in_unit_order chart entries) ≡ true
ordered_may_come chart c entries come = comes-from chart c entries come 0 (length chart.units) [] (λ u n h. refl)

-- one more entry that may be admitted
pub may_come-more : (chart : Chart) (c : CentralState) (entries : List Entry) (x : Entry) → may_come chart c.items entries ≡ true → is_ok (may_be_admitted chart c.items entries x.unit.0 x.outer) ≡ true
    → may_come chart c.items (entries ++ x ∷ []) ≡ true
may_come-more chart c entries x come admitted = comes-append chart c [] entries (x ∷ []) come (and_true (is_ok (may_be_admitted chart c.items entries x.unit.0 x.outer)) true admitted refl)
