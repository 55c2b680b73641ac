-- The lockstep law holds.
use Rattle.std.proofs.Common.{◌≡◌, ℕ, zero, suc, ◌<◌, ◌≤◌, true, false, List, [], ◌∷◌, length, map, filter, take, get_or, Option, Result, Ok, Err, unwrap_or, inl, inr, refl, sym, ap, ap₂, ◌∙◌, arith}
use Rattle.std.specs.Prelude.{option_map}
use Rattle.std.specs.List.{range_with_len}
use Rattle.std.proofs.Math.Seq.{take-suc}
use Rattle.std.proofs.lemmas.List.{length-set, length-map}
use Rattle.std.proofs.lemmas.Option.{get_or_from_slice_get}
use Rattle.wf_model.specs.declared.value.Val.{Val}
use Rattle.wf_model.specs.declared.expr.Fault.{Fault}
use Rattle.wf_model.specs.declared.ids.VarId.{VarId}
use Rattle.wf_model.specs.declared.chart.Action.{Action}
use Rattle.wf_model.specs.declared.chart.Action.TheVariants.{Assign, Raise, Start}
use Rattle.wf_model.specs.declared.chart.Chart.{Chart}
use Rattle.wf_model.specs.declared.chart.State.{State}
use Rattle.wf_model.specs.declared.chart.Variable.{Variable}
use Rattle.wf_model.specs.declared.outer.Entry.{Entry}
use Rattle.wf_parts.specs.declared.data.KnownState.{KnownState}
use Rattle.wf_parts.specs.declared.data.KnownEvent.{KnownEvent}
use Rattle.wf_model.specs.Values.{value_of}
use Rattle.wf_model.specs.Accepted.{IsAccepted}
use Rattle.wf_semantics.specs.Configuration.{is_in, IsConfiguration}
use Rattle.wf_semantics.specs.Snapshot.{Snapshot}
use Rattle.wf_semantics.specs.Effects.{actions_of, written, after_action, after_actions, after_fired, after_entries}
use Rattle.wf_semantics.specs.Run.{CentralState, first_state, next_state, after_steps, central_run, snapshot_of, fired_in}
use Rattle.wf_semantics.specs.Admission.{may_come}
use Rattle.wf_semantics.proofs.Facts.{chart_of}
use Rattle.wf_semantics.proofs.Children.{lt_or_ge, item_at}
use Rattle.wf_semantics.proofs.Runs.{run_configuration}
use Rattle.wf_runs.specs.Runs.{IsRunFrom, IsRun}
use Rattle.wf_runs.proofs.Parts.{steps_in_parts}
use Rattle.wf_parts.specs.Parts.{numbered, known_state, part_of}
use Rattle.wf_parts.specs.Known.{knows_state, knows_var}
use Rattle.wf_views.specs.Views.{View, first_view}
use Rattle.wf_views.specs.OwnSteps.{own_update}
use Rattle.wf_views.specs.Absorbing.{absorbed}
use Rattle.wf_views.proofs.Lists.{map_map, map_same, map_agree}
use Rattle.wf_lockstep.specs.Shares.{entries_at, state_after, share_of}
use Rattle.wf_lockstep.specs.Shown.{shown}
use Rattle.wf_lockstep.specs.Lock.{lock_view, lock_update, outers_by}
use Rattle.wf_lockstep.specs.Laws.{AreInOrder, Lockstep}
use Rattle.wf_lockstep.proofs.Numbered.{filter_map_swap, numbers_mem}
use Rattle.wf_lockstep.proofs.Outputs.{entries_length}
use Rattle.wf_lockstep.proofs.Sight.{var_at, act_at, var_numbers, act_numbers, vars_of_part, acts_of_part, var_id, value_at, count_at, vars_of_view, acts_of_view}
use Rattle.wf_lockstep.proofs.OwnShares.{own_is_share}
use Rattle.wf_lockstep.proofs.NextShown.{next_is_shown}

-- THE STORE HAS ONE VALUE FOR EACH VARIABLE

written_length : (x : ℕ) (r : Result Val Fault) (store : List Val) → length (written x r store) ≡ length store
written_length x (Ok val) store = length-set store x val
written_length x (Err d) store = refl

action_length : (snap : Snapshot) (x : Action) (store : List Val) → length (after_action snap.seen x store) ≡ length store
action_length snap (Assign x value) store = written_length x.0 (value_of snap.seen value) store
action_length snap (Raise e) store = refl
action_length snap (Start a) store = refl

actions_length : (snap : Snapshot) (xs : List Action) (store : List Val) → length (after_actions snap.seen xs store) ≡ length store
actions_length snap [] store = refl
actions_length snap (x ∷ xs) store = actions_length snap xs (after_action snap.seen x store) ∙ action_length snap x store

fired_length : (chart : Chart) (snap : Snapshot) (ts : List ℕ) (store : List Val) → length (after_fired chart snap.seen ts store) ≡ length store
fired_length chart snap [] store = refl
fired_length chart snap (t ∷ ts) store = fired_length chart snap ts (after_actions snap.seen (actions_of chart t) store) ∙ actions_length snap (actions_of chart t) store

next_length : (chart : Chart) (c : CentralState) (es : List Entry) → length (next_state chart c es).store ≡ length c.store
unfolding next_state
next_length chart c es = fired_length chart (snapshot_of chart c es) (fired_in chart c es) (after_entries es c.store) ∙ entries_length es c.store

steps_length : (chart : Chart) (c : CentralState) (steps : List (List Entry)) → length (after_steps chart c steps).store ≡ length c.store
steps_length chart c [] = refl
steps_length chart c (es ∷ steps) = steps_length chart (next_state chart c es) steps ∙ next_length chart c es

pub run_stored : (chart : Chart) (steps : List (List Entry)) → length (central_run chart steps).store ≡ length chart.vars
unfolding first_state
run_stored chart steps = steps_length chart (first_state chart) steps ∙ length-map chart.vars (λ x. x.first)

-- STEP BY STEP

come_along : (chart : Chart) (c : CentralState) (steps : List (List Entry)) (j : ℕ) → j < length steps → IsRunFrom chart c steps → may_come chart (after_steps chart c (take j steps)).items (get_or steps j []) ≡ true
come_along chart c [] j lt run = absurd (omega arith)
come_along chart c (es ∷ steps) zero lt run = run.0
come_along chart c (es ∷ steps) (suc j) lt run = come_along chart (next_state chart c es) steps j (omega arith) run.1

pub past_end : (steps : List (List Entry)) (j : ℕ) → length steps ≤ j → get_or steps j [] ≡ []
past_end [] j le = refl
past_end (es ∷ steps) zero le = absurd (omega arith)
past_end (es ∷ steps) (suc j) le = past_end steps j (omega arith)

pub run_comes : (chart : Chart) (steps : List (List Entry)) (j : ℕ) → IsRun chart steps → may_come chart (state_after chart steps j).items (entries_at steps (suc j)) ≡ true
run_comes chart steps j run = elim (lt_or_ge j (length steps)) [
  | inl lt ↦ come_along chart (first_state chart) steps j lt run
  | inr ge ↦ ap (may_come chart (state_after chart steps j).items) (past_end steps j ge)
]

pub state_next : (chart : Chart) (steps : List (List Entry)) (j : ℕ) → j < length steps → state_after chart steps (suc j) ≡ next_state chart (state_after chart steps j) (entries_at steps (suc j))
state_next chart steps j lt =
    ap (after_steps chart (first_state chart)) (take-suc steps j [] lt)
    ∙ steps_in_parts chart (first_state chart) (take j steps) (get_or steps j [] ∷ [])

-- BEFORE STEP 1

module _ (chart : Chart) (u : ℕ) where
  first_states : (first_view (part_of chart u)).states ≡ (shown (part_of chart u) (first_state chart) []).states
  unfolding first_view shown first_state part_of
  first_states =
      let xs : List (ℕ × State) = numbered (knows_state chart u) chart.states in
      ap (map (λ (known : KnownState). known.id))
      (filter_map_swap (known_state chart) (λ known. known.first) xs
      ∙ sym (filter_map_swap (known_state chart) (λ known. is_in known.id.0 (first_state chart).configuration) xs))

  first_value : (x : ℕ) → x < length chart.vars → get_or (first_state chart).store x (var_at chart u x).first ≡ (var_at chart u x).first
  unfolding first_state
  first_value x lt =
      let w = item_at chart.vars x lt in
      let first : (var_at chart u x).first ≡ w.0.first = ap (λ (o : Option Variable). (unwrap_or (option_map (λ y. Rattle.wf_parts.specs.Parts.known_variable (x, y)) o) (Rattle.wf_lockstep.proofs.Sight.no_variable x)).first) w.1 in
      get_or_from_slice_get (map (λ (y : Variable). y.first) chart.vars) x w.0.first (var_at chart u x).first
      (Rattle.std.proofs.lemmas.Option.slice_get-map (λ (y : Variable). y.first) chart.vars x ∙ ap (option_map (λ (y : Variable). y.first)) w.1)
      ∙ sym first

  first_vars : (first_view (part_of chart u)).vars ≡ (shown (part_of chart u) (first_state chart) []).vars
  unfolding first_view
  first_vars =
      ap (map (λ known. record { var = known.id; val = known.first })) (vars_of_part chart u)
      ∙ map_map (λ known. record { var = known.id; val = known.first }) (var_at chart u) (var_numbers chart u)
      ∙ map_agree (λ x. record { var = (var_at chart u x).id; val = (var_at chart u x).first }) (value_at chart u (first_state chart) []) (var_numbers chart u)
      (λ x m. ap₂ (λ (i : VarId) (val : Val). record { var = i; val = val }) (var_id chart u x) (sym (first_value x (numbers_mem (knows_var chart u) (length chart.vars) x m).0)))
      ∙ sym (vars_of_view chart u (first_state chart) [])

  none_raised : {A : Type 0} (xs : List A) → filter (λ x. false) xs ≡ []
  none_raised [] = refl
  none_raised (x ∷ xs) = none_raised xs

  first_shown : first_view (part_of chart u) ≡ shown (part_of chart u) (first_state chart) []
  unfolding first_view shown first_state
  first_shown = λ i. record {
    states = first_states i;
    vars = first_vars i;
    raised = ap (map (λ (known : KnownEvent). known.id)) (sym (none_raised (part_of chart u).events)) i;
    unclosed = map (λ known. (known.id, 0)) (part_of chart u).acts;
    next = [];
  }

-- THE RUN, as far as the entries may come

module _ (chart : Chart) (steps : List (List Entry)) (ok : IsAccepted chart) (last : ℕ) (comes : (i : ℕ) → i < last → may_come chart (state_after chart steps i).items (entries_at steps (suc i)) ≡ true)
    (none : entries_at steps 1 ≡ []) (ordered : AreInOrder chart steps) where
  conf : (j : ℕ) → IsConfiguration chart (state_after chart steps j).configuration
  conf j = run_configuration chart (chart_of chart ok) (take j steps)

  update_shown : (j u : ℕ) → j < last → own_update (part_of chart u) (suc j) (shown (part_of chart u) (state_after chart steps j) (entries_at steps (suc j))) (outers_by steps u j) ≡ share_of chart steps u j
  update_shown j u lt = own_is_share chart ok u (state_after chart steps j) (entries_at steps (suc j)) (conf j) (run_stored chart (take j steps)) (comes j lt) (suc j) (outers_by steps u j)

  pub view_shown : (j : ℕ) → j ≤ length steps → j ≤ last → (u : ℕ) → lock_view (length chart.units) (part_of chart) (outers_by steps) j u ≡ shown (part_of chart u) (state_after chart steps j) (entries_at steps (suc j))
  unfolding lock_view
  view_shown zero le far u = first_shown chart u ∙ ap (shown (part_of chart u) (first_state chart)) (sym none)
  view_shown (suc j) le far u =
      ap₂ (absorbed (part_of chart u)) (view_shown j (omega arith) (omega arith) u)
      (map_same (λ v. own_update (part_of chart v) (suc j) (lock_view (length chart.units) (part_of chart) (outers_by steps) j v) (outers_by steps v j)) (λ v. share_of chart steps v j)
      (λ v. ap (λ (view : View). own_update (part_of chart v) (suc j) view (outers_by steps v j)) (view_shown j (omega arith) (omega arith) v) ∙ update_shown j v (omega arith))
      (range_with_len 0 (length chart.units)))
      ∙ next_is_shown chart ok (state_after chart steps j) (entries_at steps (suc j)) (conf j) (run_stored chart (take j steps)) (comes j (omega arith)) (suc j) (entries_at steps (suc (suc j))) u (ordered (suc (suc j)))
      ∙ ap (λ (c : CentralState). shown (part_of chart u) c (entries_at steps (suc (suc j)))) (sym (state_next chart steps j (omega arith)))

  pub update_is_share : (j u : ℕ) → j ≤ length steps → j < last → lock_update (length chart.units) (part_of chart) (outers_by steps) j u ≡ share_of chart steps u j
  update_is_share j u le lt = ap (λ (view : View). own_update (part_of chart u) (suc j) view (outers_by steps u j)) (view_shown j le (omega arith) u) ∙ update_shown j u lt

pub lockstep : Lockstep
lockstep chart steps j u ok run none ordered le =
    (view_shown chart steps ok (suc j) (λ i l. run_comes chart steps i run) none ordered j le (omega arith) u, update_is_share chart steps ok (suc j) (λ i l. run_comes chart steps i run) none ordered j u le (omega arith))

-- entries that may come step by step are a run
pub run_of_comes : (chart : Chart) (c : CentralState) (steps : List (List Entry)) → ((j : ℕ) → j < length steps → may_come chart (after_steps chart c (take j steps)).items (get_or steps j []) ≡ true) → IsRunFrom chart c steps
run_of_comes chart c [] h = tt
run_of_comes chart c (es ∷ steps) h = (h 0 (omega arith), run_of_comes chart (next_state chart c es) steps (λ j lt. h (suc j) (omega arith)))
