-- A letter suits the part of the unit that it comes to.
use Rattle.std.proofs.Common.{◌≡◌, ℕ, zero, suc, ◌+◌, ◌<◌, ◌≤◌, ◌==◌, ◌&&◌, ◌||◌, not, cond, Bool, true, false, List, [], ◌∷◌, map, filter, length, slice_get, option_map, Option, Some, None, refl, sym, ap, ◌∙◌, arith, eqb-true}
use Rattle.std.specs.Option.{option_map_or}
use Rattle.std.specs.List.{list_all, list_any, filter_map, cons_option, enumerate_from, find}
use Rattle.wf_model.proofs.Bools.{and_both, and_true, or_left, or_right}
use Rattle.wf_model.specs.declared.ids.StateId.{StateId}
use Rattle.wf_model.specs.declared.chart.State.{State}
use Rattle.wf_model.specs.declared.chart.Event.{Event}
use Rattle.wf_model.specs.declared.chart.Activity.{Activity}
use Rattle.wf_model.specs.declared.chart.Chart.{Chart}
use Rattle.wf_model.specs.declared.update.Update.{Update}
use Rattle.wf_model.specs.declared.outer.Outer.{Outer}
use Rattle.wf_model.specs.declared.outer.Outer.TheVariants.{Happen, Complete}
use Rattle.wf_model.specs.Accepted.{IsAccepted}
use Rattle.wf_semantics.specs.Admission.{is_event_at, is_act_at, are_outputs_of}
use Rattle.wf_parts.specs.declared.data.KnownState.{KnownState}
use Rattle.wf_parts.specs.declared.data.KnownEvent.{KnownEvent}
use Rattle.wf_parts.specs.declared.data.KnownActivity.{KnownActivity}
use Rattle.wf_parts.specs.Known.{is_state_of, knows_state, knows_event, knows_act}
use Rattle.wf_parts.specs.Parts.{known_state, known_event, known_activity, part_of}
use Rattle.wf_parts.specs.Peers.{Knowledge, held_by, peers_of}
use Rattle.wf_views.specs.Knowledge.{cut_outer}
use Rattle.wf_views.specs.Relevant.{cut_update, is_outer_within, is_listed, nothing}
use Rattle.wf_views.specs.Views.{View}
use Rattle.wf_views.specs.OwnSteps.{part_step, own_update}
use Rattle.wf_lockstep.specs.Within.{is_at_unit}
use Rattle.wf_lockstep.proofs.Within.{all_filter, own_within}
use Rattle.wf_histories.specs.Histories.{History, sealed_by, local}
use Rattle.wf_steps.specs.Fitting.{is_state_from, is_event_from, is_act_from, is_outer_from, suits}
use Rattle.wf_owns.specs.Sorted.{is_fit}
use Rattle.wf_worlds.specs.Growing.{Good}
use Rattle.wf_worlds.specs.Worlds.{letter, IsMade}
use Rattle.wf_worlds.proofs.Keeping.{letter_is_fit}
use Rattle.wf_slot.specs.Units.{UnitState}
use Rattle.wf_world.specs.Sounds.{hist_of, IsSound}
use Rattle.wf_world.proofs.Sounds.{plain, plain_sound}
use Rattle.wf_worlds.proofs.Growing.{sealed_pass}

-- WHAT A PART KNOWS BY NUMBER

named_next : {A B : Type 0} (f : ℕ × A → B) (q : B → Bool) (p : A → Bool) (s k : ℕ) (x : A) (more : List (ℕ × A)) → ((y : ℕ × A) → q (f y) ≡ (not (y.0 == s) || p y.1)) →
    (k ≡ s → p x ≡ true) → list_all q (map f more) ≡ true → (b : Bool) → list_all q (map f (cond b ((k, x) ∷ more) more)) ≡ true
named_next {A} {B} f q p s k x more same here rest true = and_true (q (f (k, x))) (list_all q (map f more)) (same (k, x) ∙ one (k == s) refl) rest
  where
    one : (b : Bool) → (k == s) ≡ b → (not (k == s) || p x) ≡ true
    one true e = or_right (not (k == s)) (p x) (here (eqb-true k s e))
    one false e = or_left (not (k == s)) (p x) (ap not e)
named_next f q p s k x more same here rest false = rest

-- where the one of number s passes, no other one of that number is among those that pass a test
named : {A B : Type 0} (f : ℕ × A → B) (q : B → Bool) (p : A → Bool) (s : ℕ) (test : ℕ × A → Bool) (k : ℕ) (xs : List A) → ((y : ℕ × A) → q (f y) ≡ (not (y.0 == s) || p y.1)) →
    ((i : ℕ) (x : A) → k + i ≡ s → slice_get xs i ≡ Some x → p x ≡ true) → list_all q (map f (filter test (enumerate_from k xs))) ≡ true
named f q p s test k [] same each = refl
named f q p s test k (x ∷ xs) same each =
    named_next f q p s k x (filter test (enumerate_from (k + 1) xs)) same (λ e. each 0 x (omega (arith, e)) refl)
    (named f q p s test (k + 1) xs same (λ i y off at. each (suc i) y (omega (arith, off)) at)) (test (k, x))

told_at : {A : Type 0} (p : A → Bool) (xs : List A) (s : ℕ) → option_map_or p (slice_get xs s) false ≡ true → (i : ℕ) (x : A) → 0 + i ≡ s → slice_get xs i ≡ Some x → p x ≡ true
told_at {A} p xs s told i x off at =
    let same : s ≡ i = omega (arith, off) in
    sym (ap (λ (o : Option A). option_map_or p o false) (ap (λ (n : ℕ). slice_get xs n) same ∙ at)) ∙ told

module _ (chart : Chart) (u v : ℕ) where
  state_from : (s : StateId) → is_state_of chart v s.0 ≡ true → is_state_from (part_of chart u) v s ≡ true
  unfolding part_of
  state_from s own =
      named (known_state chart) (λ (known : KnownState). not (known.id.0 == s.0) || (known.unit.0 == v)) (λ (state : State). state.unit.0 == v) s.0 (λ x. knows_state chart u x.0) 0 chart.states (λ y. refl)
      (told_at (λ (state : State). state.unit.0 == v) chart.states s.0 own)

  event_from : (e : ℕ) → is_event_at chart v e ≡ true → is_event_from (part_of chart u) v e ≡ true
  unfolding part_of
  event_from e own =
      named known_event (λ (known : KnownEvent). not (known.id.0 == e) || option_map_or (λ unit. unit.0 == v) known.unit false) (λ (event : Event). option_map_or (λ unit. unit.0 == v) event.unit false) e
      (λ x. knows_event chart u x.0) 0 chart.events (λ y. refl) (told_at (λ (event : Event). option_map_or (λ unit. unit.0 == v) event.unit false) chart.events e own)

  act_at : (a : ℕ) → is_act_at chart v a ≡ true → option_map_or (λ (act : Activity). act.unit.0 == v) (slice_get chart.acts a) false ≡ true
  act_at a = go (slice_get chart.acts a)
    where
      go : (o : Option Activity) → option_map_or (λ unit. unit == v) (option_map (λ (act : Activity). act.unit.0) o) false ≡ true → option_map_or (λ (act : Activity). act.unit.0 == v) o false ≡ true
      go None e = e
      go (Some act) e = e

  act_from : (a : ℕ) → is_act_at chart v a ≡ true → is_act_from (part_of chart u) v a ≡ true
  unfolding part_of
  act_from a own =
      named (known_activity chart u) (λ (known : KnownActivity). not (known.id.0 == a) || (known.unit.0 == v)) (λ (act : Activity). act.unit.0 == v) a (λ x. knows_act chart u x.0) 0 chart.acts (λ y. refl)
      (told_at (λ (act : Activity). act.unit.0 == v) chart.acts a (act_at a own))

  outer_from : (o : Outer) → is_at_unit chart v o ≡ true → is_outer_from (part_of chart u) v o ≡ true
  outer_from (Happen e) at = event_from e.0 at
  outer_from (Complete item a outputs) at = act_from a.0 (and_both (is_act_at chart v a.0) (are_outputs_of chart a.0 outputs) at).0

  -- LISTS

  states_from : (xs : List StateId) → list_all (λ s. is_state_of chart v s.0) xs ≡ true → list_all (is_state_from (part_of chart u) v) xs ≡ true
  states_from [] own = refl
  states_from (s ∷ xs) own =
      let both = and_both (is_state_of chart v s.0) (list_all (λ s. is_state_of chart v s.0) xs) own in
      and_true (is_state_from (part_of chart u) v s) (list_all (is_state_from (part_of chart u) v) xs) (state_from s both.0) (states_from xs both.1)

  one_cut : (known : Knowledge) (o : Outer) (rest : List Outer) → is_outer_from (part_of chart u) v o ≡ true → list_all (is_outer_from (part_of chart u) v) rest ≡ true → list_all (is_outer_from (part_of chart u) v) (cons_option (cut_outer known o) rest) ≡ true
  one_cut known (Happen e) rest own all = go (known.events e.0)
    where
      go : (b : Bool) → list_all (is_outer_from (part_of chart u) v) (cons_option (cond b (Some (Happen e)) None) rest) ≡ true
      go true = and_true (is_outer_from (part_of chart u) v (Happen e)) (list_all (is_outer_from (part_of chart u) v) rest) own all
      go false = all
  one_cut known (Complete item a outputs) rest own all = go (known.acts a.0 || list_any (λ o. known.vars o.var.0) outputs)
    where
      go : (b : Bool) → list_all (is_outer_from (part_of chart u) v) (cons_option (cond b (Some (Complete item a (filter (λ o. known.vars o.var.0) outputs))) None) rest) ≡ true
      go true = and_true (is_act_from (part_of chart u) v a.0) (list_all (is_outer_from (part_of chart u) v) rest) own all
      go false = all

  outers_from : (known : Knowledge) (os : List Outer) → list_all (is_at_unit chart v) os ≡ true → list_all (is_outer_from (part_of chart u) v) (filter_map (cut_outer known) os) ≡ true
  outers_from known [] at = refl
  outers_from known (o ∷ os) at =
      let both = and_both (is_at_unit chart v o) (list_all (is_at_unit chart v) os) at in
      one_cut known o (filter_map (cut_outer known) os) (outer_from o both.0) (outers_from known os both.1)

-- WHAT A UNIT MAKES

own_from : (chart : Chart) (v k : ℕ) (view : View) (os : List Outer) → (own_update (part_of chart v) k view os).from.0 ≡ v
unfolding part_of part_step
own_from chart v k view os = refl

own_outers : (chart : Chart) (v k : ℕ) (view : View) (os : List Outer) → list_all (is_at_unit chart v) os ≡ true → list_all (is_at_unit chart v) (own_update (part_of chart v) k view os).outer ≡ true
unfolding part_step
own_outers chart v k view os at = at

own_flips : (chart : Chart) (v k : ℕ) (view : View) (os : List Outer) → list_all (is_at_unit chart v) os ≡ true → list_all (λ s. is_state_of chart v s.0) (own_update (part_of chart v) k view os).flips ≡ true
own_flips chart v k view os at =
    let update : Update = own_update (part_of chart v) k view os in
    (and_both (list_all (λ s. is_state_of chart v s.0) update.flips)
    (list_all (λ write. (held_by chart v).vars write.var.0) update.writes && (list_all (λ e. (held_by chart v).events e.0) update.raised && (list_all (λ start. (held_by chart v).acts start.act.0) update.starts
    && list_all (is_outer_within (held_by chart v)) update.outer))) (own_within chart v k view os at)).0

-- A LETTER SUITS

module _ (chart : Chart) (u v : ℕ) (known : Knowledge) (update : Update) (from : update.from.0 ≡ v) (flips : list_all (λ s. is_state_of chart v s.0) update.flips ≡ true)
    (outers : list_all (is_at_unit chart v) update.outer ≡ true) (fit : is_fit (part_of chart u) (cut_update known update) ≡ true) where
  by_sender : ℕ → Bool
  by_sender w = list_all (is_state_from (part_of chart u) w) (filter (λ s. known.states s.0) update.flips) && (list_all (is_outer_from (part_of chart u) w) (filter_map (cut_outer known) update.outer) && is_fit (part_of chart u) (cut_update known update))

  at_sender : by_sender v ≡ true
  unfolding by_sender
  at_sender =
      and_true (list_all (is_state_from (part_of chart u) v) (filter (λ s. known.states s.0) update.flips)) (list_all (is_outer_from (part_of chart u) v) (filter_map (cut_outer known) update.outer) && is_fit (part_of chart u) (cut_update known update))
      (states_from chart u v (filter (λ s. known.states s.0) update.flips) (all_filter (λ (s : StateId). is_state_of chart v s.0) (λ s. known.states s.0) update.flips flips))
      (and_true (list_all (is_outer_from (part_of chart u) v) (filter_map (cut_outer known) update.outer)) (is_fit (part_of chart u) (cut_update known update)) (outers_from chart u v known update.outer outers) fit)

  cut_suits : suits (part_of chart u) (cut_update known update) ≡ true
  unfolding cut_update by_sender
  cut_suits = ap by_sender from ∙ at_sender

pub letter_suits : (chart : Chart) (h : ℕ → History) (u v j : ℕ) → Good chart v (h v) → is_fit (part_of chart u) (letter chart h v u (suc j)) ≡ true → suits (part_of chart u) (letter chart h v u (suc j)) ≡ true
letter_suits chart h u v j good fit =
    let own = sealed_pass (is_at_unit chart v) (h v) good.at_unit j in
    let view : View = local (part_of chart v) (h v) j in
    cut_suits chart u v (option_map_or is_listed (find (λ known. known.unit.0 == u) (peers_of chart v)) nothing) (own_update (part_of chart v) (suc j) view (sealed_by (h v) j))
    (own_from chart v (suc j) view (sealed_by (h v) j)) (own_flips chart v (suc j) view (sealed_by (h v) j) own) (own_outers chart v (suc j) view (sealed_by (h v) j) own) fit

-- so whatever was made for a unit suits its part
pub made_suits : (chart : Chart) (ok : IsAccepted chart) (units : List UnitState) (count : length units ≡ length chart.units) (s : IsSound chart units) (u v j : ℕ) (update : Update) → v < length chart.units → 1 ≤ j →
    IsMade chart (hist_of units) v u j update → suits (part_of chart u) update ≡ true
made_suits chart ok units count s u v zero update lt some made = absurd (omega (arith, some))
made_suits chart ok units count s u v (suc j) update lt some made =
    let near = made.0 in
    let fit = letter_is_fit chart (plain chart ok units count s) v u j ok (plain_sound chart ok units count s) lt (omega (arith, near)) in
    ap (suits (part_of chart u)) made.1 ∙ letter_suits chart (hist_of units) u v j (s.good v lt) fit
