-- The passes over the tables make the step of the central run.
use Rattle.std.proofs.Common.{◌≡◌, ℕ, ◌<◌, ◌≤◌, ◌==◌, ◌||◌, ◌&&◌, cond, Bool, true, false, List, [], ◌∷◌, length, map, filter, find, get_or, Option, Some, None, is_some, unwrap_or, inl, inr, refl, sym, ◌∙◌, ap, ap₂, subst, arith, IfSome}
use Rattle.std.specs.List.{All, list_any, range_with_len, slice_get}
use Rattle.std.specs.Option.{option_map}
use Rattle.wf_model.specs.declared.ids.TransId.{TransId}
use Rattle.wf_model.specs.declared.chart.Chart.{Chart}
use Rattle.wf_model.specs.Accepted.{IsAccepted}
use Rattle.wf_model.specs.Tree.{scope, source, ancestors, all_states, all_transitions}
use Rattle.wf_model.specs.Ids.{state_id, trans_id}
use Rattle.wf_semantics.specs.Configuration.{Tree, is_in}
use Rattle.wf_semantics.specs.Walk.{new_tree, fired_of, first_of_scope}
use Rattle.wf_model.proofs.Bools.{Mem, any_agree}
use Rattle.wf_semantics.proofs.Lists.{mem_among, filter_agree, filter_mem, find_some}
use Rattle.wf_semantics.proofs.Children.{lt_or_ge}
use Rattle.wf_semantics.proofs.Facts.{IsChart, chart_of}
use Rattle.wf_semantics.proofs.Places.{above_low}
use Rattle.wf_semantics.proofs.Scopes.{scope_facts}
use Rattle.wf_semantics.proofs.Steps.{transition_mem}
use Rattle.wf_model.proofs.Rows.{row_at, row_get, row_len}
use Rattle.wf_model.specs.Bits.{bit}
use Rattle.wf_central.specs.Made.{AreBits}
use Rattle.wf_central.specs.Passes.{at, chosen_by, firing_by, is_number, fired_by, or_else, first_ids, bit_by, moved_by}
use Rattle.wf_central.proofs.Firing.{firing_at, first_by, or_other, is_this, bit_after, fired_list, bit_moves}

abbrev ids : Option ℕ → Option TransId
ids o = option_map trans_id o

-- what a row has at a place, and past its end
pub row_bit : (f : ℕ → Bool) (n z : ℕ) (bits : List Bool) → bits ≡ map f (range_with_len 0 n) → z < n → bit bits z ≡ f z
row_bit f n z bits e lt = row_at f n z false bits e lt

row_entry : (f : ℕ → Option TransId) (n z : ℕ) (table : List (Option TransId)) → table ≡ map f (range_with_len 0 n) → z < n → at table z ≡ f z
row_entry f n z table e lt = ap (λ (o : Option (Option TransId)). unwrap_or o None) (row_get f n z table e lt)

pub past_end : {A : Type 0} (xs : List A) (i : ℕ) → length xs ≤ i → slice_get xs i ≡ None
past_end [] i h = refl
past_end (x ∷ xs) Rattle.std.proofs.Common.zero h = absurd (omega arith)
past_end (x ∷ xs) (Rattle.std.proofs.Common.suc i) h = past_end xs i (omega arith)

find_agree : (p q : ℕ → Bool) (xs : List ℕ) → ((x : ℕ) → Mem x xs → p x ≡ q x) → find p xs ≡ find q xs
find_agree p q [] h = refl
find_agree p q (x ∷ xs) h =
    ap₂ (λ (b : Bool) (o : Option ℕ). cond b (Some x) o) (h x (inl refl)) (find_agree p q xs (λ y m. h y (inr m)))

some_same : (o : Option ℕ) → is_some (ids o) ≡ is_some o
some_same None = refl
some_same (Some t) = refl

is_same : (t : ℕ) (o : Option ℕ) → is_number t (ids o) ≡ is_this t o
is_same t None = refl
is_same t (Some u) = refl

bit_same : (chart : Chart) (z : ℕ) (was : Bool) (o : Option ℕ) → bit_by chart z was (ids o) ≡ bit_after chart z was o
bit_same chart z was None = refl
bit_same chart z was (Some t) = refl

or_same : (a b : Option ℕ) → or_else (ids a) (ids b) ≡ ids (or_other a b)
or_same None b = refl
or_same (Some t) b = refl

cond_same : (b : Bool) (o : Option ℕ) → cond b None (ids o) ≡ ids (cond b None o)
cond_same true o = refl
cond_same false o = refl

-- what fires is a transition of the chart
pub firing_known : (chart : Chart) (ready : List Bool) (chosen firing : List (Option TransId)) → chosen ≡ map (chosen_by chart ready) (all_states chart)
    → firing ≡ map (firing_by chart chosen) (all_states chart) → (s : ℕ) → IfSome (at firing s) (λ t. t.0 < length chart.transitions)
firing_known chart ready chosen firing made_chosen made_firing s = elim (lt_or_ge s (length chart.states)) [
  | inl lt ↦ unheld (list_any (λ a. is_some (at chosen a)) (ancestors chart s)) (at chosen s) (at firing s) (row_entry (firing_by chart chosen) (length chart.states) s firing made_firing lt)
      (found (find (λ t. bit ready t && (scope chart t == s)) (all_transitions chart)) refl (at chosen s) (row_entry (chosen_by chart ready) (length chart.states) s chosen made_chosen lt))
  | inr ge ↦ none (at firing s) (ap (λ (o : Option (Option TransId)). unwrap_or o None) (past_end firing s (omega (arith, row_len (firing_by chart chosen) (length chart.states) firing made_firing))))
]
  where
    none : (o : Option TransId) → o ≡ None → IfSome o (λ t. t.0 < length chart.transitions)
    none None e = tt
    none (Some t) e = cc

    unheld : (b : Bool) (o r : Option TransId) → r ≡ cond b None o → IfSome o (λ t. t.0 < length chart.transitions) → IfSome r (λ t. t.0 < length chart.transitions)
    unheld b o None e h = tt
    unheld true o (Some t) e h = cc
    unheld false o (Some t) e h = Rattle.std.proofs.Common.subst (λ (x : Option TransId). IfSome x (λ t. t.0 < length chart.transitions)) (sym e) h

    found : (f : Option ℕ) → find (λ t. bit ready t && (scope chart t == s)) (all_transitions chart) ≡ f → (o : Option TransId) → o ≡ ids f → IfSome o (λ t. t.0 < length chart.transitions)
    found f q None e = tt
    found None q (Some t) e = cc
    found (Some u) q (Some t) e =
        let same : Some t ≡ Some (trans_id u) = e in
        let at_u : t ≡ trans_id u = cc in
        omega (arith, ap (λ (x : TransId). x.0) at_u, transition_mem chart u (find_some (λ t. bit ready t && (scope chart t == s)) (all_transitions chart) u q).0)

module _ (chart : Chart) (accepted : IsAccepted chart) (c : Tree) (enabled : ℕ → Bool) (active : List Bool) (ready : List Bool) (bits : AreBits chart c enabled active ready) where
  ok : IsChart chart
  ok = chart_of chart accepted

  scope_in : (t : ℕ) → t < length chart.transitions → scope chart t < length chart.states
  scope_in t lt = omega (arith, above_low chart ok (scope chart t) (source chart t) (scope_facts chart ok t lt).2, (ok.sources t lt).1)

  module _ (chosen firing : List (Option TransId)) (made_chosen : chosen ≡ map (chosen_by chart ready) (all_states chart)) (made_firing : firing ≡ map (firing_by chart chosen) (all_states chart)) where
    chosen_as : (s : ℕ) → s < length chart.states → at chosen s ≡ ids (first_of_scope chart enabled s)
    chosen_as s lt =
        row_entry (chosen_by chart ready) (length chart.states) s chosen made_chosen lt
        ∙ ap ids (find_agree (λ t. bit ready t && (scope chart t == s)) (λ t. enabled t && (scope chart t == s)) (all_transitions chart)
        (λ t m. let tl = transition_mem chart t m in
        ap (λ (b : Bool). b && (scope chart t == s)) (row_bit enabled (length chart.transitions) t ready bits.tests tl)))

    firing_as : (s : ℕ) → s < length chart.states → at firing s ≡ ids (firing_at chart enabled s)
    firing_as s lt =
        row_entry (firing_by chart chosen) (length chart.states) s firing made_firing lt
        ∙ ap₂ (λ (b : Bool) (o : Option TransId). cond b None o)
        (any_agree (λ a. is_some (at chosen a)) (λ a. is_some (first_of_scope chart enabled a)) (ancestors chart s)
        (λ a m. let low = above_low chart ok a s (mem_among (ancestors chart s) a m) in
        ap is_some (chosen_as a (omega arith)) ∙ some_same (first_of_scope chart enabled a)))
        (chosen_as s lt)
        ∙ cond_same (list_any (λ a. is_some (first_of_scope chart enabled a)) (ancestors chart s)) (first_of_scope chart enabled s)

    fired_as : (t : ℕ) → t < length chart.transitions → fired_by chart firing t ≡ is_this t (firing_at chart enabled (scope chart t))
    fired_as t lt = ap (is_number t) (firing_as (scope chart t) (scope_in t lt)) ∙ is_same t (firing_at chart enabled (scope chart t))

    -- the transitions that fire
    pub fired_made : filter (fired_by chart firing) (all_transitions chart) ≡ fired_of chart enabled c
    fired_made =
        filter_agree (fired_by chart firing) (λ t. is_this t (firing_at chart enabled (scope chart t))) (all_transitions chart) (λ t m. fired_as t (transition_mem chart t m))
        ∙ fired_list chart ok enabled c bits.configuration bits.sources

    first_as : (xs : List ℕ) → ((x : ℕ) → Mem x xs → x < length chart.states) → first_ids firing (map state_id xs) ≡ ids (first_by (firing_at chart enabled) xs)
    first_as [] h = refl
    first_as (x ∷ xs) h =
        ap₂ or_else (firing_as x (h x (inl refl))) (first_as xs (λ y m. h y (inr m)))
        ∙ or_same (firing_at chart enabled x) (first_by (firing_at chart enabled) xs)

    -- where the states go
    pub moved_made : (z : ℕ) → z < length chart.states → moved_by chart active firing z ≡ is_in z (new_tree chart enabled c)
    moved_made z lt =
        ap₂ (bit_by chart z) (row_bit (λ s. is_in s c) (length chart.states) z active bits.bits lt)
        (first_as (ancestors chart z) (λ a m. let low = above_low chart ok a z (mem_among (ancestors chart z) a m) in omega arith))
        ∙ bit_same chart z (is_in z c) (first_by (firing_at chart enabled) (ancestors chart z))
        ∙ bit_moves chart ok enabled c bits.configuration bits.sources z

-- what fired are transitions of the chart
pub all_known : (chart : Chart) (p : ℕ → Bool) (ids : List TransId) → ids ≡ map trans_id (filter p (all_transitions chart)) → All (λ t. t.0 < length chart.transitions) ids
all_known chart p ids made = subst (All (λ (t : TransId). t.0 < length chart.transitions)) (sym made) (among (filter p (all_transitions chart)) (λ t m. transition_mem chart t (filter_mem p (all_transitions chart) t m).0))
  where
    among : (ts : List ℕ) → ((t : ℕ) → Mem t ts → t < length chart.transitions) → (k : ℕ) (d : TransId) → k < length (map trans_id ts) → (get_or (map trans_id ts) k d).0 < length chart.transitions
    among [] h k d lt = absurd (omega arith)
    among (t ∷ ts) h Rattle.std.proofs.Common.zero d lt = h t (inl refl)
    among (t ∷ ts) h (Rattle.std.proofs.Common.suc k) d lt = among ts (λ u m. h u (inr m)) k d (omega arith)
