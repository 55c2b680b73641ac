-- Parents and children in a list of states.
use Rattle.std.proofs.Common.{◌≡◌, ℕ, zero, suc, ◌<◌, ◌≤◌, ◌⊎◌, Bool, true, List, [], ◌∷◌, length, Option, Some, None, unwrap_or, slice_get, inl, inr, refl, sym, ap, ◌∙◌, arith, eqb-true, eq-eqb, true≢false}
use Rattle.std.specs.List.{list_any}
use Rattle.std.specs.Option.{option_map, option_and_then}
use Rattle.std.proofs.lemmas.Option.{slice_get_past}
use Rattle.wf_model.specs.declared.chart.Chart.{Chart}
use Rattle.wf_model.specs.declared.chart.State.{State}
use Rattle.wf_model.specs.declared.chart.Kind.{Kind}
use Rattle.wf_model.specs.declared.chart.Kind.TheVariants.{Basic, Or, And}
use Rattle.wf_model.specs.Tree.{kind, parent, parent_of, children, all_states, is_child_of, is_or}
use Rattle.wf_model.specs.Accepted.{has_child}
use Rattle.wf_model.proofs.Bools.{Mem, or_cases, or_left, or_right}
use Rattle.wf_semantics.proofs.Lists.{mem_range, mem_filter, filter_mem}

pub lt_or_ge : (a b : ℕ) → (a < b) ⊎ (b ≤ a)
lt_or_ge a b = grind arith

-- what a list has at a place within it
pub item_at : {A : Type 0} → (xs : List A) (i : ℕ) → i < length xs → (x : A) × (slice_get xs i ≡ Some x)
item_at [] i lt = absurd (omega arith)
item_at (x ∷ xs) zero lt = (x, refl)
item_at (x ∷ xs) (suc i) lt = item_at xs i (omega arith)

-- an item that passes, with its place
pub any_at : {A : Type 0} → (test : A → Bool) (xs : List A) → list_any test xs ≡ true → (i : ℕ) × (x : A) × (slice_get xs i ≡ Some x) × (test x ≡ true)
any_at test [] h = absurd (true≢false (sym h))
any_at test (x ∷ xs) h = elim (or_cases (test x) (list_any test xs) h) [
  | inl a ↦ (0, x, refl, a)
  | inr b ↦ let w = any_at test xs b in (suc w.0, w.1, w.2, w.3)
]

pub at_any : {A : Type 0} → (test : A → Bool) (xs : List A) (i : ℕ) (x : A) → slice_get xs i ≡ Some x → test x ≡ true → list_any test xs ≡ true
at_any test [] i x e h = cc
at_any test (y ∷ xs) zero x e h = let same : y ≡ x = cc in or_left (test y) (list_any test xs) (ap test same ∙ h)
at_any test (y ∷ xs) (suc i) x e h = or_right (test y) (list_any test xs) (at_any test xs i x e h)

pub or_of : (k : Kind) → is_or k ≡ true → k ≡ Or
or_of Basic h = absurd (true≢false (sym h))
or_of Or h = refl
or_of And h = absurd (true≢false (sym h))

-- past the states there is no parent, and each kind is basic
pub parent_past : (chart : Chart) (s : ℕ) → length chart.states ≤ s → parent chart s ≡ None
parent_past chart s le = ap (option_and_then parent_of) (slice_get_past chart.states s le)

pub kind_past : (chart : Chart) (s : ℕ) → length chart.states ≤ s → kind chart s ≡ Basic
kind_past chart s le = ap (λ (o : Option State). unwrap_or (option_map (λ state. state.kind) o) Basic) (slice_get_past chart.states s le)

pub parent_inside : (chart : Chart) (k s : ℕ) → parent chart k ≡ Some s → k < length chart.states
parent_inside chart k s e = elim (lt_or_ge k (length chart.states)) [
  | inl l ↦ l
  | inr g ↦ absurd (none_some (sym (parent_past chart k g) ∙ e))
]
  where
    none_some : None ≡ Some s → ⊥
    none_some q = cc

pub child_of : (s : ℕ) (o : Option ℕ) → is_child_of s o ≡ true → o ≡ Some s
child_of s None h = absurd (true≢false (sym h))
child_of s (Some p) h = ap Some (eqb-true p s h)

pub of_child : (s : ℕ) (o : Option ℕ) → o ≡ Some s → is_child_of s o ≡ true
of_child s o e = ap (is_child_of s) e ∙ eq-eqb s s refl

-- a state is among the children of its parent, and of no other
pub mem_child_parent : (chart : Chart) (s k : ℕ) → Mem k (children chart s) → parent chart k ≡ Some s
unfolding children
mem_child_parent chart s k m = child_of s (parent chart k) (filter_mem (λ k. is_child_of s (parent chart k)) (all_states chart) k m).1

pub mem_children : (chart : Chart) (s k : ℕ) → parent chart k ≡ Some s → Mem k (children chart s)
unfolding children
mem_children chart s k e =
    let lt = parent_inside chart k s e in
    mem_filter (λ k. is_child_of s (parent chart k)) (all_states chart) k (mem_range 0 (length chart.states) k (omega arith) (omega arith)) (of_child s (parent chart k) e)

pub mem_some : (k : ℕ) (ks : List ℕ) → Mem k ks → 0 < length ks
mem_some k [] m = absurd m
mem_some k (x ∷ ks) m = omega arith

pub no_mem : (ks : List ℕ) → ((k : ℕ) → Mem k ks → ⊥) → ks ≡ []
no_mem [] none = refl
no_mem (k ∷ ks) none = absurd (none k (inl refl))

-- a state has children where the test says so
pub has_children : (chart : Chart) (s : ℕ) → has_child chart s ≡ true → 0 < length (children chart s)
has_children chart s h =
    let w = any_at (λ state. is_child_of s (parent_of state)) chart.states h in
    mem_some w.0 (children chart s) (mem_children chart s w.0 (ap (option_and_then parent_of) w.2 ∙ child_of s (parent_of w.1) w.3))

pub has_no_children : (chart : Chart) (s : ℕ) → (has_child chart s ≡ true → ⊥) → children chart s ≡ []
has_no_children chart s no_child = no_mem (children chart s) (λ k m.
    let e = mem_child_parent chart s k m in
    let w = item_at chart.states k (parent_inside chart k s e) in
    no_child (at_any (λ state. is_child_of s (parent_of state)) chart.states k w.0 w.1 (of_child s (parent_of w.0) (sym (ap (option_and_then parent_of) w.1) ∙ e))))
