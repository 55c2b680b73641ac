-- The lines of ancestors, table by table.
use Rattle.std.proofs.Common.{◌≡◌, ℕ, zero, suc, ◌+◌, ◌<◌, ◌==◌, Bool, List, [], ◌∷◌, length, map, filter, get_or, cond, true, false, find, unwrap_or, Option, Some, None, ◌&&◌, ◌++◌, refl, sym, ◌∙◌, ap, arith}
use Rattle.std.specs.List.{range_with_len, slice_get, list_any}
use Rattle.std.specs.Option.{option_map}
use Rattle.std.proofs.lemmas.Option.{slice_get-get_or}
use Rattle.wf_model.specs.declared.ids.StateId.{StateId}
use Rattle.wf_model.specs.declared.chart.State.{State}
use Rattle.wf_model.specs.declared.chart.Transition.{Transition}
use Rattle.wf_model.specs.declared.chart.Chart.{Chart}
use Rattle.wf_model.specs.Accepted.{IsAccepted}
use Rattle.wf_model.specs.Tree.{parent, parent_of, ancestors, ancestors_by, list_from, is_above, kind, is_or, scope_between, source, target}
use Rattle.wf_model.specs.Ids.{state_id}
use Rattle.wf_semantics.proofs.Ancestors.{by_up, enough}
use Rattle.wf_model.proofs.Bools.{any_map}
use Rattle.wf_semantics.proofs.Facts.{IsChart, chart_of}
use Rattle.wf_semantics.proofs.Charts.{falls}
use Rattle.wf_scopes.specs.Tables.{ancestor_ids, lineages_of}
use Rattle.std.proofs.lemmas.List.Elements.{filter-append}
use Rattle.wf_model.proofs.Rows.{row_at, row_len, range_more}

-- a state's ancestors are its parent and that one's ancestors
pub ancestors_step : (chart : Chart) → IsChart chart → (s : ℕ) → ancestors chart s ≡ list_from (λ p. p ∷ ancestors chart p) (parent chart s)
unfolding ancestors_by
ancestors_step chart ok zero = by_up (parent chart) 0 (λ e. rw e refl) (λ p e. absurd (omega (arith, falls chart ok 0 p e)))
ancestors_step chart ok (suc s) = by_up (parent chart) (suc s)
    (λ e. rw e refl)
    (λ p e. let low : p < suc s = falls chart ok (suc s) p e in
    rw e (ap (λ (l : List ℕ). p ∷ l) (enough (parent chart) (falls chart ok) s p p (omega arith) (omega arith))))

-- what is read of a state in a list
pub state_get : (chart : Chart) (i : ℕ) (st : State) → i < length chart.states → st ≡ get_or chart.states i st → slice_get chart.states i ≡ Some st
state_get chart i st lt is = slice_get-get_or chart.states i st lt ∙ ap Some (sym is)

pub parent_read : (chart : Chart) (i : ℕ) (st : State) → slice_get chart.states i ≡ Some st → parent chart i ≡ parent_of st
parent_read chart i st e = rw e refl

by_parent : (chart : Chart) (known : List (List StateId)) (i : ℕ) (o : Option StateId) → IsChart chart → known ≡ map (ancestor_ids chart) (range_with_len 0 i)
    → parent chart i ≡ option_map (λ (p : StateId). p.0) o → list_from (λ p. p ∷ get_or known p.0 []) o ≡ ancestor_ids chart i
by_parent chart known i None ok rows up = sym (ap (map state_id) (ancestors_step chart ok i ∙ ap (list_from (λ p. p ∷ ancestors chart p)) up))
by_parent chart known i (Some p) ok rows up =
    ap (λ (l : List StateId). p ∷ l) (row_at (ancestor_ids chart) i p.0 [] known rows (falls chart ok i p.0 up))
    ∙ sym (ap (map state_id) (ancestors_step chart ok i ∙ ap (list_from (λ p. p ∷ ancestors chart p)) up))

-- the line of state i, from those of the states before it
pub line_read : (chart : Chart) (known : List (List StateId)) (i : ℕ) (st : State) → IsAccepted chart → known ≡ map (ancestor_ids chart) (range_with_len 0 i)
    → i < length chart.states → st ≡ get_or chart.states i st → list_from (λ p. p ∷ get_or known p.0 []) st.parent ≡ ancestor_ids chart i
line_read chart known i st ok rows lt is = by_parent chart known i st.parent (chart_of chart ok) rows (parent_read chart i st (state_get chart i st lt is))

-- the parent stands before the state
pub parent_low : (chart : Chart) (i : ℕ) (st : State) (p : StateId) → IsAccepted chart → i < length chart.states → st ≡ get_or chart.states i st → st.parent ≡ Some p → p.0 < i
parent_low chart i st p ok lt is e =
    falls chart (chart_of chart ok) i p.0 (parent_read chart i st (state_get chart i st lt is) ∙ ap (option_map (λ (q : StateId). q.0)) e)

-- a state is above another where it is in that one's line
pub above_read : (chart : Chart) (a b : ℕ) (ids : List StateId) (table : List (List StateId)) → table ≡ lineages_of chart → b < length chart.states → ids ≡ get_or table b ids
    → list_any (λ x. x.0 == a) ids ≡ is_above chart a b
unfolding lineages_of
above_read chart a b ids table e lt is =
    ap (list_any (λ (x : StateId). x.0 == a)) (is ∙ row_at (ancestor_ids chart) (length chart.states) b ids table e lt)
    ∙ any_map (λ (x : StateId). x.0 == a) state_id (ancestors chart b)

pub lineages_len : (chart : Chart) (table : List (List StateId)) → table ≡ lineages_of chart → length table ≡ length chart.states
unfolding lineages_of
lineages_len chart table e = row_len (ancestor_ids chart) (length chart.states) table e

-- the first item that passes, in a list of what f makes
find_map : {A B : Type 0} (p : A → Bool) (f : B → A) (xs : List B) → find p (map f xs) ≡ option_map f (find (λ x. p (f x)) xs)
find_map p f [] = refl
find_map {A} {B} p f (x ∷ xs) = by_test (p (f x)) (find_map p f xs)
  where
    by_test : (b : Bool) → find p (map f xs) ≡ option_map f (find (λ y. p (f y)) xs) → cond b (Some (f x)) (find p (map f xs)) ≡ option_map f (cond b (Some x) (find (λ y. p (f y)) xs))
    by_test true ih = refl
    by_test false ih = ih

number_of : (o : Option ℕ) → unwrap_or (option_map (λ (a : StateId). a.0) (option_map state_id o)) 0 ≡ unwrap_or o 0
number_of None = refl
number_of (Some n) = refl

-- the scope is the first in the source's line that is an Or state above the target
pub scope_read : (chart : Chart) (table : List (List StateId)) (ids : List StateId) (from to : ℕ) (o : Option StateId) → table ≡ lineages_of chart → from < length chart.states → ids ≡ get_or table from ids
    → o ≡ find (λ (a : StateId). is_or (kind chart a.0) && is_above chart a.0 to) ids → unwrap_or (option_map (λ (a : StateId). a.0) o) 0 ≡ scope_between chart from to
unfolding lineages_of
scope_read chart table ids from to o e lt is found =
    let line : ids ≡ map state_id (ancestors chart from) = is ∙ row_at (ancestor_ids chart) (length chart.states) from ids table e lt in
    ap (λ (x : Option StateId). unwrap_or (option_map (λ (a : StateId). a.0) x) 0)
    (found ∙ ap (find (λ (a : StateId). is_or (kind chart a.0) && is_above chart a.0 to)) line
    ∙ find_map (λ (a : StateId). is_or (kind chart a.0) && is_above chart a.0 to) state_id (ancestors chart from))
    ∙ number_of (find (λ a. is_or (kind chart a) && is_above chart a to) (ancestors chart from))

-- what is read of a transition in a list
pub trans_get : (chart : Chart) (i : ℕ) (tr : Transition) → i < length chart.transitions → tr ≡ get_or chart.transitions i tr → slice_get chart.transitions i ≡ Some tr
trans_get chart i tr lt is = slice_get-get_or chart.transitions i tr lt ∙ ap Some (sym is)

pub source_read : (chart : Chart) (i : ℕ) (tr : Transition) → i < length chart.transitions → tr ≡ get_or chart.transitions i tr → source chart i ≡ tr.source.0
source_read chart i tr lt is = rw (trans_get chart i tr lt is) refl

pub target_read : (chart : Chart) (i : ℕ) (tr : Transition) → i < length chart.transitions → tr ≡ get_or chart.transitions i tr → target chart i ≡ tr.target.0
target_read chart i tr lt is = rw (trans_get chart i tr lt is) refl

pub source_in : (chart : Chart) (i : ℕ) (tr : Transition) → IsAccepted chart → i < length chart.transitions → tr ≡ get_or chart.transitions i tr → tr.source.0 < length chart.states
source_in chart i tr ok lt is = omega (arith, ((chart_of chart ok).sources i lt).1, source_read chart i tr lt is)

pub target_in : (chart : Chart) (i : ℕ) (tr : Transition) → IsAccepted chart → i < length chart.transitions → tr ≡ get_or chart.transitions i tr → tr.target.0 < length chart.states
target_in chart i tr ok lt is = omega (arith, ((chart_of chart ok).targets i lt).1, target_read chart i tr lt is)

-- one number more that may pass
pub filter_more_by : {A : Type 0} (f : ℕ → A) (p : ℕ → Bool) (i : ℕ) → map f (filter p (range_with_len 0 (i + 1))) ≡ map f (filter p (range_with_len 0 i)) ++ cond (p i) (f i ∷ []) []
filter_more_by {A} f p i =
    ap (λ (l : List ℕ). map f (filter p l)) (range_more i)
    ∙ ap (map f) (filter-append p (range_with_len 0 i) (i ∷ []))
    ∙ map_more (filter p (range_with_len 0 i)) (p i)
  where
    map_more : (xs : List ℕ) (b : Bool) → map f (xs ++ cond b (i ∷ []) []) ≡ map f xs ++ cond b (f i ∷ []) []
    map_more [] true = refl
    map_more [] false = refl
    map_more (x ∷ xs) b = ap (λ (l : List A). f x ∷ l) (map_more xs b)

-- one state more
pub filter_more : (p : ℕ → Bool) (i : ℕ) → map state_id (filter p (range_with_len 0 (i + 1))) ≡ map state_id (filter p (range_with_len 0 i)) ++ cond (p i) (state_id i ∷ []) []
filter_more p i = filter_more_by state_id p i
