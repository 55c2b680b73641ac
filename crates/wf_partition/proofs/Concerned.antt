-- The transitions that concern a unit, component by component.
use Rattle.std.proofs.Common.{◌≡◌, ◌≢◌, ℕ, zero, suc, ◌+◌, ◌<◌, ◌≤◌, ◌==◌, ◌||◌, ◌&&◌, Bool, true, false, List, ◌∷◌, length, map, filter, cond, get_or, refl, sym, ◌∙◌, ap, ap₂, arith, eqb-true, eq-eqb, true≢false}
use Rattle.std.specs.List.{list_any, range_with_len}
use Rattle.wf_model.specs.declared.ids.TransId.{TransId}
use Rattle.wf_parts.specs.declared.data.Component.{Component}
use Rattle.wf_parts.specs.declared.data.Flat.{Flat}
use Rattle.wf_model.specs.declared.chart.Chart.{Chart}
use Rattle.wf_model.specs.Accepted.{IsAccepted}
use Rattle.wf_model.specs.Tree.{all_states, all_transitions, source}
use Rattle.wf_model.specs.Ids.{trans_id}
use Rattle.wf_parts.specs.Reads.{reads_state}
use Rattle.wf_parts.specs.Components.{component_of, flat_of, enters, leaves}
use Rattle.wf_parts.specs.Known.{concerns, is_state_of, is_read, watches_state}
use Rattle.wf_parts.proofs.Entered.{concerned_by_lists}
use Rattle.wf_model.proofs.Bools.{any_map}
use Rattle.wf_model.proofs.Rows.{row_at, row_len, row_agree}
use Rattle.wf_partition.specs.Marked.{marked, moves, leads_from}
use Rattle.wf_partition.proofs.Bits.{differ, marked_row, row_more_by}

-- whether t is one of the numbers that pass
among_step : (t a : ℕ) (b : Bool) (rest : List ℕ) → list_any (λ x. x == t) (cond b (a ∷ rest) rest) ≡ ((b && (a == t)) || list_any (λ x. x == t) rest)
among_step t a true rest = refl
among_step t a false rest = refl

none_before : (p : ℕ → Bool) (a n t : ℕ) → t < a → list_any (λ x. x == t) (filter p (range_with_len a n)) ≡ false
none_before p a zero t lt = refl
none_before p a (suc n) t lt =
    among_step t a (p a) (filter p (range_with_len (a + 1) n))
    ∙ ap₂ (λ (x y : Bool). (p a && x) || y) (differ a t (omega arith)) (none_before p (a + 1) n t (omega arith)) ∙ and_or (p a)
  where
    and_or : (b : Bool) → ((b && false) || false) ≡ false
    and_or true = refl
    and_or false = refl

among_from : (p : ℕ → Bool) (a n t : ℕ) → a ≤ t → t < a + n → list_any (λ x. x == t) (filter p (range_with_len a n)) ≡ p t
among_from p a zero t ge lt = absurd (omega arith)
among_from p a (suc n) t ge lt = among_step t a (p a) (filter p (range_with_len (a + 1) n)) ∙ by_test (a == t) refl (λ h. among_from p (a + 1) n t h (omega arith))
  where
    off : (b c : Bool) → ((b && false) || c) ≡ c
    off true c = refl
    off false c = refl

    on : (b : Bool) → ((b && true) || false) ≡ b
    on true = refl
    on false = refl

    above : (a == t) ≡ false → a + 1 ≤ t
    above f = let ne : a ≢ t = λ e. absurd (true≢false (sym (eq-eqb a t e) ∙ f)) in omega arith

    by_test : (b : Bool) → (a == t) ≡ b → (a + 1 ≤ t → list_any (λ x. x == t) (filter p (range_with_len (a + 1) n)) ≡ p t)
        → ((p a && (a == t)) || list_any (λ x. x == t) (filter p (range_with_len (a + 1) n))) ≡ p t
    by_test true e ih =
        let same : a ≡ t = eqb-true a t e in
        ap₂ (λ (x y : Bool). (p a && x) || y) e (none_before p (a + 1) n t (omega arith)) ∙ on (p a) ∙ ap p same
    by_test false e ih = ap (λ (x : Bool). (p a && x) || list_any (λ y. y == t) (filter p (range_with_len (a + 1) n))) e ∙ off (p a) (list_any (λ x. x == t) (filter p (range_with_len (a + 1) n))) ∙ ih (above e)

among_ids : (p : ℕ → Bool) (n t : ℕ) → t < n → list_any (λ x. x.0 == t) (map trans_id (filter p (range_with_len 0 n))) ≡ p t
among_ids p n t lt = any_map (λ (x : TransId). x.0 == t) trans_id (filter p (range_with_len 0 n)) ∙ among_from p 0 n t (omega arith) (omega arith)

-- the component's lists say which transitions let its state in and out
pub moved_by_lists : (chart : Chart) (z t : ℕ) → t < length chart.transitions → moves (component_of chart z) t ≡ (enters chart t z || leaves chart t z)
moved_by_lists chart z t lt =
    ap₂ (λ (a b : Bool). a || b) (among_ids (λ i. enters chart i z) (length chart.transitions) t lt) (among_ids (λ i. leaves chart i z) (length chart.transitions) t lt)

-- the components are those of the chart
pub component_at : (chart : Chart) (flat : Flat) (z : ℕ) (component : Component) → flat ≡ flat_of chart → z < length flat.components → component ≡ get_or flat.components z component
    → component ≡ component_of chart z
unfolding flat_of
component_at chart flat z component e lt is =
    let rows = ap (λ (f : Flat). f.components) e in
    is ∙ row_at (component_of chart) (length chart.states) z component flat.components rows (let n = row_len (component_of chart) (length chart.states) flat.components rows in omega arith)

pub components_len : (chart : Chart) (flat : Flat) → flat ≡ flat_of chart → length flat.components ≡ length chart.states
unfolding flat_of
components_len chart flat e = row_len (component_of chart) (length chart.states) flat.components (ap (λ (f : Flat). f.components) e)

-- the transitions that the unit's states before z have in their lists
abbrev pub moved_before : Chart → ℕ → ℕ → ℕ → Bool
moved_before chart u z t = list_any (λ y. is_state_of chart u y && (enters chart t y || leaves chart t y)) (range_with_len 0 z)

-- one component more
pub concerned_more : (chart : Chart) (flat : Flat) (u z : ℕ) (component : Component) (counts : Bool) (bits new : List Bool) → flat ≡ flat_of chart → z < length flat.components
    → component ≡ get_or flat.components z component → counts ≡ is_state_of chart u component.state.0 → bits ≡ map (moved_before chart u z) (all_transitions chart)
    → new ≡ marked (λ t. counts && moves component t) bits → new ≡ map (moved_before chart u (z + 1)) (all_transitions chart)
concerned_more chart flat u z component counts bits new e lt is c before now =
    let it : component ≡ component_of chart z = component_at chart flat z component e lt is in
    row_more_by (λ y t. is_state_of chart u y && (enters chart t y || leaves chart t y)) (λ t. counts && moves component t) (length chart.transitions) z bits new before now
    (λ t low. ap₂ (λ (a b : Bool). a && b) (c ∙ ap (λ (x : Component). is_state_of chart u x.state.0) it) (ap (λ x. moves x t) it ∙ moved_by_lists chart z t low))

-- all components
pub concerned_all : (chart : Chart) (flat : Flat) (u : ℕ) (bits : List Bool) → IsAccepted chart → flat ≡ flat_of chart → bits ≡ map (moved_before chart u (length flat.components)) (all_transitions chart)
    → bits ≡ map (concerns chart u) (all_transitions chart)
concerned_all chart flat u bits ok e is =
    is ∙ ap (λ n. map (moved_before chart u n) (all_transitions chart)) (components_len chart flat e)
    ∙ row_agree (moved_before chart u (length chart.states)) (concerns chart u) (length chart.transitions) (λ t lt. sym (concerned_by_lists chart ok u t lt))

-- tests of numbers below n that agree there
pub any_below : (p q : ℕ → Bool) (a n : ℕ) → ((t : ℕ) → t < a + n → p t ≡ q t) → list_any p (range_with_len a n) ≡ list_any q (range_with_len a n)
any_below p q a zero h = refl
any_below p q a (suc n) h = ap₂ (λ (x y : Bool). x || y) (h a (omega arith)) (any_below p q (a + 1) n (λ t lt. h t (omega arith)))

or_swap : (a b : Bool) → (a || b) ≡ (b || a)
or_swap true true = refl
or_swap true false = refl
or_swap false true = refl
or_swap false false = refl

-- the states that are read, and the sources of the transitions that concern the unit
pub watched_row : (chart : Chart) (u : ℕ) (concerned bits new : List Bool) → concerned ≡ map (concerns chart u) (all_transitions chart)
    → bits ≡ map (λ s. is_read chart u (reads_state s)) (all_states chart) → new ≡ marked (λ s. list_any (leads_from chart concerned s) (all_transitions chart)) bits
    → new ≡ map (watches_state chart u) (all_states chart)
unfolding watches_state
watched_row chart u concerned bits new c before now =
    now ∙ marked_row (λ s. is_read chart u (reads_state s)) (λ s. list_any (leads_from chart concerned s) (all_transitions chart)) (length chart.states) bits before
    ∙ row_agree _ (watches_state chart u) (length chart.states) (λ s lt.
    or_swap (is_read chart u (reads_state s)) (list_any (leads_from chart concerned s) (all_transitions chart))
    ∙ ap (λ (b : Bool). b || is_read chart u (reads_state s))
    (any_below (leads_from chart concerned s) (λ t. concerns chart u t && (source chart t == s)) 0 (length chart.transitions)
    (λ t low. ap (λ (b : Bool). b && (source chart t == s)) (row_at (concerns chart u) (length chart.transitions) t false concerned c (omega arith)))))
