-- The order of what an update lists, and of the entries of a step.
use Rattle.std.proofs.Common.{◌≡◌, ℕ, zero, suc, ◌+◌, ◌<◌, ◌≤◌, ◌==◌, ◌&&◌, nat_lt, nat_le, not, cond, Bool, true, false, List, [], ◌∷◌, ◌++◌, map, filter, flat_map, get_or, length, Option, Some, None, slice_get, refl, sym, ap, ap₂, ◌∙◌, subst, arith, eqb-true, eq-eqb, true≢false, ltb-true}
use Rattle.std.specs.Prelude.{is_ok, Result, Ok, Err}
use Rattle.std.specs.Option.{option_map, option_map_or}
use Rattle.std.specs.List.{list_all, range_with_len}
use Rattle.std.specs.List.Sorted.{IsStrictlyIncreasing}
use Rattle.std.proofs.lemmas.Bool.{leb-true}
use Rattle.std.proofs.lemmas.List.Kept.{IsStrictlyIncreasing-filter}
use Rattle.wf_model.specs.declared.ids.StateId.{StateId}
use Rattle.wf_model.specs.declared.ids.TransId.{TransId}
use Rattle.wf_model.specs.declared.ids.UnitId.{UnitId}
use Rattle.wf_model.specs.declared.chart.Activity.{Activity}
use Rattle.wf_model.specs.declared.chart.Event.{Event}
use Rattle.wf_model.specs.declared.chart.Chart.{Chart}
use Rattle.wf_model.specs.declared.outer.Outer.{Outer}
use Rattle.wf_model.specs.declared.outer.Outer.TheVariants.{Happen, Complete}
use Rattle.wf_model.specs.declared.outer.OuterFault.{OuterFault}
use Rattle.wf_model.specs.declared.outer.OuterFault.TheVariants.{WrongUnit}
use Rattle.wf_model.specs.declared.outer.Entry.{Entry}
use Rattle.wf_parts.specs.declared.data.Component.{Component}
use Rattle.wf_parts.specs.declared.data.PartTransition.{PartTransition}
use Rattle.wf_model.specs.Tree.{all_states, all_transitions}
use Rattle.wf_model.specs.Accepted.{IsAccepted, is_unit, is_placed_event, is_known_activity, all_of}
use Rattle.wf_semantics.specs.Snapshot.{Snapshot}
use Rattle.wf_semantics.specs.Run.{CentralState, first_state, next_state}
use Rattle.wf_semantics.specs.Admission.{is_event_at, is_act_at, may_be_admitted, may_come_after}
use Rattle.wf_model.proofs.Bools.{and_both, not_true}
use Rattle.wf_semantics.proofs.Facts.{parts}
use Rattle.wf_runs.specs.Runs.{IsRunFrom, IsRun}
use Rattle.wf_actions.proofs.Merging.{merged_ascends}
use Rattle.wf_parts.specs.Components.{component_of}
use Rattle.wf_parts.specs.Known.{is_state_of, concerns}
use Rattle.wf_parts.specs.Parts.{part_of}
use Rattle.wf_views.specs.Views.{sees}
use Rattle.wf_views.specs.OwnSteps.{own_fired, is_fired_in, is_raised_by, flips_in, part_step}
use Rattle.wf_views.proofs.Lists.{map_map, map_same}
use Rattle.wf_lockstep.specs.Shares.{entries_at, entries_to, by_units}
use Rattle.wf_lockstep.specs.Ordered.{OwnAscends, rises, LockstepInOrder}
use Rattle.wf_lockstep.proofs.Numbered.{filter_map_swap}
use Rattle.wf_lockstep.proofs.Firing.{trans_at, trans_id_at}
use Rattle.wf_lockstep.proofs.Owners.{range_ascends}
use Rattle.wf_lockstep.proofs.Within.{own_fired_at, mine}
use Rattle.wf_lockstep.proofs.LockHolds.{lockstep}
use Rattle.wf_model.proofs.Items.{all_at, numbered_at}
use Rattle.wf_model.specs.Ids.{event_id}

map_id : (xs : List ℕ) → map (λ x. x) xs ≡ xs
map_id [] = refl
map_id (x ∷ xs) = ap (λ (l : List ℕ). x ∷ l) (map_id xs)

numbers_back : {A : Type 0} (f : ℕ → A) (id : A → ℕ) → ((t : ℕ) → id (f t) ≡ t) → (xs : List ℕ) → map id (map f xs) ≡ xs
numbers_back f id e xs = map_map id f xs ∙ map_same (λ t. id (f t)) (λ t. t) e xs ∙ map_id xs

module _ (chart : Chart) (u : ℕ) (snap : Snapshot) where
  flips_ascend : IsStrictlyIncreasing (map (λ s. s.0) (map (λ c. c.state) (filter (flips_in (part_of chart u) snap) (part_of chart u).components)))
  unfolding part_of
  flips_ascend =
      let zs : List ℕ = filter (is_state_of chart u) (all_states chart) in
      subst (λ (l : List ℕ). IsStrictlyIncreasing l)
      (sym (ap (λ (l : List Component). map (λ (s : StateId). s.0) (map (λ c. c.state) l)) (filter_map_swap (component_of chart) (flips_in (part_of chart u) snap) zs)
      ∙ map_map (λ (s : StateId). s.0) (λ (c : Component). c.state) (map (component_of chart) (filter (λ z. flips_in (part_of chart u) snap (component_of chart z)) zs))
      ∙ numbers_back (component_of chart) (λ c. c.state.0) (λ t. refl) (filter (λ z. flips_in (part_of chart u) snap (component_of chart z)) zs)))
      (IsStrictlyIncreasing-filter (λ z. flips_in (part_of chart u) snap (component_of chart z)) zs (IsStrictlyIncreasing-filter (is_state_of chart u) (all_states chart) (range_ascends (length chart.states))))

  fired_ascend : IsStrictlyIncreasing (map (λ t. t.0) (map (λ p. p.id) (own_fired (part_of chart u) snap)))
  fired_ascend =
      subst (λ (l : List ℕ). IsStrictlyIncreasing l)
      (sym (ap (λ (l : List PartTransition). map (λ (t : TransId). t.0) (map (λ p. p.id) l)) (own_fired_at chart u snap)
      ∙ map_map (λ (t : TransId). t.0) (λ (p : PartTransition). p.id) (map (trans_at chart u) (mine chart u snap))
      ∙ numbers_back (trans_at chart u) (λ p. p.id.0) (λ t. ap (λ (i : TransId). i.0) (trans_id_at chart u t)) (mine chart u snap)))
      (IsStrictlyIncreasing-filter (λ t. (trans_at chart u t).own && is_fired_in (part_of chart u) snap (trans_at chart u t)) (filter (concerns chart u) (all_transitions chart))
      (IsStrictlyIncreasing-filter (concerns chart u) (all_transitions chart) (range_ascends (length chart.transitions))))

  raised_ascend : (n : ℕ) → IsStrictlyIncreasing (map (λ e. e.0) (map event_id (filter (is_raised_by snap (own_fired (part_of chart u) snap)) (range_with_len 0 n))))
  raised_ascend n =
      subst (λ (l : List ℕ). IsStrictlyIncreasing l) (sym (numbers_back event_id (λ e. e.0) (λ t. refl) (filter (is_raised_by snap (own_fired (part_of chart u) snap)) (range_with_len 0 n))))
      (IsStrictlyIncreasing-filter (is_raised_by snap (own_fired (part_of chart u) snap)) (range_with_len 0 n) (range_ascends n))

pub own_ascends : OwnAscends
unfolding part_step
own_ascends chart u k view outers =
    let snap : Snapshot = sees (part_of chart u) view in
    record {
      flips = flips_ascend chart u snap;
      writes = merged_ascends (flat_map (λ trans. Rattle.std.specs.Prelude.filter_map (Rattle.wf_actions.specs.Store.write_of snap.seen trans.id.0) trans.actions) (own_fired (part_of chart u) snap));
      raised = raised_ascend chart u snap Rattle.wf_model.specs.Limits.max_events;
      fired = fired_ascend chart u snap;
    }

-- ENTRIES IN UNIT ORDER

none_to : (lo u : ℕ) (es : List Entry) → u < lo → rises lo es ≡ true → entries_to u es ≡ []
none_to lo u [] lt h = refl
none_to lo u (x ∷ xs) lt h =
    let both = and_both (nat_le lo x.unit.0) (rises x.unit.0 xs) h in
    let le : lo ≤ x.unit.0 = leb-true lo x.unit.0 both.0 in
    ap (λ (b : Bool). cond b (x ∷ entries_to u xs) (entries_to u xs)) (not_true (x.unit.0 == u) (λ e. omega (arith, eqb-true x.unit.0 u e, le, lt)))
    ∙ none_to x.unit.0 u xs (omega (arith, le, lt)) both.1

module _ (x : Entry) (g : ℕ → List Entry) where
  behind : (w a n : ℕ) → w < a → flat_map (λ u. cond (w == u) (x ∷ g u) (g u)) (range_with_len a n) ≡ flat_map g (range_with_len a n)
  behind w a zero lt = refl
  behind w a (suc n) lt =
      ap (λ (b : Bool). cond b (x ∷ g a) (g a) ++ flat_map (λ u. cond (w == u) (x ∷ g u) (g u)) (range_with_len (a + 1) n)) (not_true (w == a) (λ e. omega (arith, eqb-true w a e)))
      ∙ ap (λ (l : List Entry). g a ++ l) (behind w (a + 1) n (omega arith))

  in_front : (w a n : ℕ) → a ≤ w → w < a + n → ((u : ℕ) → u < w → g u ≡ []) → flat_map (λ u. cond (w == u) (x ∷ g u) (g u)) (range_with_len a n) ≡ x ∷ flat_map g (range_with_len a n)
  in_front w a zero l k none = absurd (omega arith)
  in_front w a (suc n) l k none = go (w == a) refl (λ ne. in_front w (a + 1) n (omega (arith, ne)) (omega arith) none) (λ e. behind w (a + 1) n (omega (arith, e)))
    where
      rest : List Entry
      rest = flat_map (λ u. cond (w == u) (x ∷ g u) (g u)) (range_with_len (a + 1) n)

      go : (b : Bool) → (w == a) ≡ b → ((w ≡ a → ⊥) → rest ≡ x ∷ flat_map g (range_with_len (a + 1) n)) → (w ≡ a → rest ≡ flat_map g (range_with_len (a + 1) n)) →
          cond b (x ∷ g a) (g a) ++ rest ≡ x ∷ (g a ++ flat_map g (range_with_len (a + 1) n))
      go true e f h = ap (λ (l : List Entry). x ∷ (g a ++ l)) (h (eqb-true w a e))
      go false e f h =
          let ne : w ≡ a → ⊥ = λ q. true≢false (sym (eq-eqb w a q) ∙ e) in
          let empty : g a ≡ [] = none a (omega (arith, ne)) in
          ap (λ (l : List Entry). l ++ rest) empty ∙ f ne ∙ ap (λ (l : List Entry). x ∷ (l ++ flat_map g (range_with_len (a + 1) n))) (sym empty)

no_units : (us : List ℕ) → flat_map (λ u. entries_to u []) us ≡ []
no_units [] = refl
no_units (u ∷ us) = no_units us

abbrev below : ℕ → Entry → Bool
below n x = nat_lt x.unit.0 n

pub in_order : (n lo : ℕ) (es : List Entry) → rises lo es ≡ true → list_all (below n) es ≡ true → by_units n es ≡ es
in_order n lo [] h k = no_units (range_with_len 0 n)
in_order n lo (x ∷ xs) h k =
    let both = and_both (nat_le lo x.unit.0) (rises x.unit.0 xs) h in
    let few = and_both (below n x) (list_all (below n) xs) k in
    in_front x (λ u. entries_to u xs) x.unit.0 0 n (omega arith) (omega (arith, ltb-true x.unit.0 n few.0)) (λ u lt. none_to x.unit.0 u xs lt both.1)
    ∙ ap (λ (l : List Entry). x ∷ l) (in_order n x.unit.0 xs both.1 few.1)

-- WHAT MAY COME IS AT A UNIT OF THE CHART

module _ (chart : Chart) (ok : IsAccepted chart) where
  event_unit : (u e : ℕ) → is_event_at chart u e ≡ true → nat_lt u (length chart.units) ≡ true
  event_unit u e h = go (slice_get chart.events e) refl h
    where
      at : (o : Option UnitId) → all_of (is_unit chart) o ≡ true → option_map_or (λ unit. unit.0 == u) o false ≡ true → nat_lt u (length chart.units) ≡ true
      at None p q = absurd (true≢false (sym q))
      at (Some unit) p q = ap (λ (v : ℕ). nat_lt v (length chart.units)) (sym (eqb-true unit.0 u q)) ∙ p

      go : (o : Option Event) → slice_get chart.events e ≡ o → option_map_or (λ event. option_map_or (λ unit. unit.0 == u) event.unit false) o false ≡ true → nat_lt u (length chart.units) ≡ true
      go None q k = absurd (true≢false (sym k))
      go (Some event) q k =
          let placed : is_placed_event chart e event ≡ true = numbered_at (is_placed_event chart) chart.events (parts chart ok).placed_events e event q in
          at event.unit (grind arith) k

  act_unit_below : (u a : ℕ) → is_act_at chart u a ≡ true → nat_lt u (length chart.units) ≡ true
  act_unit_below u a h = go (slice_get chart.acts a) refl h
    where
      go : (o : Option Activity) → slice_get chart.acts a ≡ o → option_map_or (λ unit. unit == u) (option_map (λ act. act.unit.0) o) false ≡ true → nat_lt u (length chart.units) ≡ true
      go None q k = absurd (true≢false (sym k))
      go (Some act) q k =
          let known : is_known_activity chart act ≡ true = all_at (is_known_activity chart) chart.acts (parts chart ok).known_activities a act q in
          ap (λ (v : ℕ). nat_lt v (length chart.units)) (sym (eqb-true act.unit.0 u k)) ∙ (and_both (is_unit chart act.unit) (list_all (λ x. nat_lt x.0 (length chart.vars)) act.outputs) known).0

  first_test : (at : Bool) (r : Result (Unit {0}) OuterFault) → is_ok (cond (not at) (Err WrongUnit) r) ≡ true → at ≡ true
  first_test true r h = refl
  first_test false r h = absurd (true≢false (sym h))

  abbrev event_answer : Bool → Result (Unit {0}) OuterFault
  event_answer at = cond at (Ok tt) (Err WrongUnit)

  event_test : (at : Bool) → is_ok (event_answer at) ≡ true → at ≡ true
  event_test true h = refl
  event_test false h = absurd (true≢false (sym h))

  outer_below : (c : CentralState) (pending : List Entry) (u : ℕ) (o : Outer) → is_ok (may_be_admitted chart c.items pending u o) ≡ true → nat_lt u (length chart.units) ≡ true
  unfolding may_be_admitted
  outer_below c pending u (Happen e) h = event_unit u e.0 (event_test (is_event_at chart u e.0) h)
  outer_below c pending u (Complete n a os) h = act_unit_below u a.0 (first_test (is_act_at chart u a.0) _ h)

  come_below : (c : CentralState) (pending es : List Entry) → may_come_after chart c.items pending es ≡ true → list_all (below (length chart.units)) es ≡ true
  come_below c pending [] h = refl
  come_below c pending (x ∷ xs) h =
      let both = and_both (is_ok (may_be_admitted chart c.items pending x.unit.0 x.outer)) (may_come_after chart c.items (pending ++ x ∷ []) xs) h in
      ap₂ (λ (a b : Bool). a && b) (outer_below c pending x.unit.0 x.outer both.0) (come_below c (pending ++ x ∷ []) xs both.1)

  steps_in_order : (c : CentralState) (steps : List (List Entry)) → IsRunFrom chart c steps → list_all (rises 0) steps ≡ true → (i : ℕ) → by_units (length chart.units) (get_or steps i []) ≡ get_or steps i []
  steps_in_order c [] run h i = no_units (range_with_len 0 (length chart.units))
  steps_in_order c (es ∷ steps) run h zero = let both = and_both (rises 0 es) (list_all (rises 0) steps) h in in_order (length chart.units) 0 es both.0 (come_below c [] es run.0)
  steps_in_order c (es ∷ steps) run h (suc i) = let both = and_both (rises 0 es) (list_all (rises 0) steps) h in steps_in_order (next_state chart c es) steps run.1 both.1 i

  pub entries_in_order : (steps : List (List Entry)) → IsRun chart steps → list_all (rises 0) steps ≡ true → (k : ℕ) → by_units (length chart.units) (entries_at steps k) ≡ entries_at steps k
  entries_in_order steps run h zero = no_units (range_with_len 0 (length chart.units))
  entries_in_order steps run h (suc i) = steps_in_order (first_state chart) steps run h i

pub lockstep_in_order : LockstepInOrder
lockstep_in_order chart steps j u ok run none order le = lockstep chart steps j u ok run none (entries_in_order chart ok steps run order) le
