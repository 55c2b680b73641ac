-- A part's transitions fire where the chart's do.
use Rattle.std.proofs.Common.{◌≡◌, ℕ, ◌<◌, ◌==◌, ◌||◌, ◌&&◌, not, cond, Bool, true, false, List, [], length, map, filter, filter_map, flat_map, find, Option, Some, None, unwrap_or, slice_get, refl, sym, ap, ap₂, ◌∙◌, subst, arith, eqb-true, eq-eqb}
use Rattle.std.specs.Prelude.{option_map}
use Rattle.std.specs.Option.{option_map_or}
use Rattle.std.specs.List.{list_any}
use Rattle.wf_model.specs.declared.ids.EventId.{EventId}
use Rattle.wf_model.specs.declared.ids.TransId.{TransId}
use Rattle.wf_model.specs.declared.expr.Expr.{Expr}
use Rattle.wf_model.specs.declared.chart.Action.{Action}
use Rattle.wf_model.specs.declared.chart.Chart.{Chart}
use Rattle.wf_model.specs.declared.chart.Transition.{Transition}
use Rattle.wf_parts.specs.declared.data.PartTransition.{PartTransition}
use Rattle.wf_model.specs.Tree.{all_transitions, source}
use Rattle.wf_model.specs.Accepted.{IsAccepted}
use Rattle.wf_semantics.specs.Snapshot.{Snapshot, has_event, has_guard, is_true, is_ready, is_enabled}
use Rattle.wf_semantics.specs.Effects.{actions_of}
use Rattle.wf_semantics.specs.Flat.{blocks, blockers, fires}
use Rattle.wf_model.proofs.Bools.{or_left, or_right, and_true, mem_any, any_agree, any_map}
use Rattle.wf_semantics.proofs.Lists.{filter_mem, filter_agree}
use Rattle.wf_semantics.proofs.Children.{item_at}
use Rattle.wf_semantics.proofs.Steps.{mem_transition, transition_mem}
use Rattle.wf_semantics.proofs.Facts.{chart_of}
use Rattle.wf_parts.specs.Reads.{reads_state, reads_var, reads_act, guard_reads, values_read, is_on}
use Rattle.wf_parts.specs.Known.{is_state_of, concerns, is_own, is_such, is_read, watches_state, knows_state, knows_var, knows_event, knows_act}
use Rattle.wf_parts.specs.Parts.{part_transition, part_of}
use Rattle.wf_parts.proofs.Concerned.{own_concerns, blockers_concern}
use Rattle.wf_views.specs.OwnSteps.{transition_in, is_ready_in, is_enabled_in, is_fired_in, fires_in, own_fired}
use Rattle.wf_lockstep.proofs.Values.{ShowActions, value_same}
use Rattle.wf_lockstep.proofs.Numbered.{at_number, numbered_at, find_at, filter_map_swap, filter_filter}
use Rattle.wf_lockstep.proofs.Sight.{Alike}
use Rattle.wf_model.specs.Ids.{state_id, trans_id}

abbrev pub no_transition : ℕ → PartTransition
no_transition t = record { id = trans_id t; source = state_id 0; event = None; guard = None; blockers = []; own = false; actions = [] }

-- transition t as the part has it
abbrev pub trans_at : Chart → ℕ → ℕ → PartTransition
trans_at chart u t = at_number (part_transition chart u) no_transition chart.transitions t

-- WHAT IS KNOWN OF A TRANSITION

module _ (chart : Chart) (u : ℕ) where
  of_such : (test : Transition → Bool) (t : ℕ) (trans : Transition) → slice_get chart.transitions t ≡ Some trans → test trans ≡ true → is_such test chart t ≡ true
  of_such test t trans e h = ap (λ (o : Option Transition). option_map_or test o false) e ∙ h

  known_source : (t : ℕ) → t < length chart.transitions → concerns chart u t ≡ true → knows_state chart u (source chart t) ≡ true
  unfolding watches_state
  known_source t lt con =
      or_right (is_state_of chart u (source chart t)) (watches_state chart u (source chart t))
      (or_left (list_any (λ x. concerns chart u x && (source chart x == source chart t)) (all_transitions chart)) (is_read chart u (reads_state (source chart t)))
      (mem_any (λ x. concerns chart u x && (source chart x == source chart t)) t (all_transitions chart) (mem_transition chart t lt)
      (and_true (concerns chart u t) (source chart t == source chart t) con (eq-eqb (source chart t) (source chart t) refl))))

  known_trigger : (t : ℕ) (trans : Transition) (e : EventId) → t < length chart.transitions → concerns chart u t ≡ true → slice_get chart.transitions t ≡ Some trans → trans.event ≡ Some e → knows_event chart u e.0 ≡ true
  unfolding knows_event
  known_trigger t trans e lt con is ev =
      or_right (Rattle.wf_semantics.specs.Admission.is_event_at chart u e.0) (list_any (λ x. concerns chart u x && is_such (is_on e.0) chart x) (all_transitions chart))
      (mem_any (λ x. concerns chart u x && is_such (is_on e.0) chart x) t (all_transitions chart) (mem_transition chart t lt)
      (and_true (concerns chart u t) (is_such (is_on e.0) chart t) con (of_such (is_on e.0) t trans is (ap (λ (o : Option EventId). option_map_or (λ event. event.0 == e.0) o false) ev ∙ eq-eqb e.0 e.0 refl))))

  pub read_in_guard : (reads : Expr → Bool) (t : ℕ) (trans : Transition) (g : Expr) → t < length chart.transitions → concerns chart u t ≡ true → slice_get chart.transitions t ≡ Some trans → trans.guard ≡ Some g → reads g ≡ true → is_read chart u reads ≡ true
  read_in_guard reads t trans g lt con is gu h =
      mem_any (λ t. (concerns chart u t && is_such (guard_reads reads) chart t) || (is_own chart u t && is_such (values_read reads) chart t)) t (all_transitions chart) (mem_transition chart t lt)
      (or_left (concerns chart u t && is_such (guard_reads reads) chart t) (is_own chart u t && is_such (values_read reads) chart t)
      (and_true (concerns chart u t) (is_such (guard_reads reads) chart t) con (of_such (guard_reads reads) t trans is (ap (λ (o : Option Expr). option_map_or reads o false) gu ∙ h))))

  pub read_in_values : (reads : Expr → Bool) (t : ℕ) (trans : Transition) → t < length chart.transitions → is_own chart u t ≡ true → slice_get chart.transitions t ≡ Some trans → values_read reads trans ≡ true → is_read chart u reads ≡ true
  read_in_values reads t trans lt own is h =
      mem_any (λ t. (concerns chart u t && is_such (guard_reads reads) chart t) || (is_own chart u t && is_such (values_read reads) chart t)) t (all_transitions chart) (mem_transition chart t lt)
      (or_right (concerns chart u t && is_such (guard_reads reads) chart t) (is_own chart u t && is_such (values_read reads) chart t)
      (and_true (is_own chart u t) (is_such (values_read reads) chart t) own (of_such (values_read reads) t trans is h)))

  pub read_state : (s : ℕ) → is_read chart u (reads_state s) ≡ true → knows_state chart u s ≡ true
  unfolding watches_state
  read_state s h = or_right (is_state_of chart u s) (watches_state chart u s) (or_right (list_any (λ t. concerns chart u t && (source chart t == s)) (all_transitions chart)) (is_read chart u (reads_state s)) h)

  pub read_var : (x : ℕ) → is_read chart u (reads_var x) ≡ true → knows_var chart u x ≡ true
  unfolding knows_var
  read_var x h = ap (λ (b : Bool). b || (list_any (λ t. is_own chart u t && is_such (Rattle.wf_parts.specs.Reads.assigns x) chart t) (all_transitions chart) || list_any (λ a. Rattle.wf_semantics.specs.Admission.is_act_at chart u a && Rattle.wf_parts.specs.Known.has_output chart x a) (Rattle.wf_model.specs.Tree.all_acts chart))) h

  pub read_act : (a : ℕ) → is_read chart u (reads_act a) ≡ true → knows_act chart u a ≡ true
  unfolding knows_act
  read_act a h = or_right (Rattle.wf_semantics.specs.Admission.is_act_at chart u a) (is_read chart u (reads_act a)) h

  -- THE PART'S LIST

  pub trans_of_part : (part_of chart u).transitions ≡ map (trans_at chart u) (filter (concerns chart u) (all_transitions chart))
  unfolding part_of
  trans_of_part = numbered_at (part_transition chart u) no_transition (concerns chart u) chart.transitions

  pub trans_id_at : (t : ℕ) → (trans_at chart u t).id ≡ trans_id t
  trans_id_at t = go (slice_get chart.transitions t)
    where
      go : (o : Option Transition) → (unwrap_or (option_map (λ x. part_transition chart u (t, x)) o) (no_transition t)).id ≡ trans_id t
      go None = refl
      go (Some x) = refl

  pub at_some : (t : ℕ) (trans : Transition) → slice_get chart.transitions t ≡ Some trans → trans_at chart u t ≡ part_transition chart u (t, trans)
  at_some t trans e = ap (λ (o : Option Transition). unwrap_or (option_map (λ x. part_transition chart u (t, x)) o) (no_transition t)) e

  pub own_actions : (t : ℕ) → is_own chart u t ≡ true → (trans_at chart u t).actions ≡ actions_of chart t
  own_actions t own = go (slice_get chart.transitions t)
    where
      go : (o : Option Transition) → (unwrap_or (option_map (λ x. part_transition chart u (t, x)) o) (no_transition t)).actions ≡ unwrap_or (option_map (λ trans. trans.actions) o) []
      go None = refl
      go (Some x) = ap (λ (b : Bool). cond b x.actions []) own

  pub trans_found : (t : ℕ) → t < length chart.transitions → concerns chart u t ≡ true → transition_in (part_of chart u) t ≡ Some (trans_at chart u t)
  trans_found t lt con =
      ap (λ (l : List PartTransition). find (λ p. p.id.0 == t) l) trans_of_part
      ∙ find_at (trans_at chart u) (λ p. p.id.0) (λ t. ap (λ (i : TransId). i.0) (trans_id_at t)) (concerns chart u) (length chart.transitions) t lt con

  module _ (ok : IsAccepted chart) (a b : Snapshot) (alike : Alike chart u a b) where
    guard_same : (t : ℕ) (trans : Transition) (o : Option Expr) → t < length chart.transitions → concerns chart u t ≡ true → slice_get chart.transitions t ≡ Some trans → trans.guard ≡ o → has_guard a.seen o ≡ has_guard b.seen o
    guard_same t trans None lt con is gu = refl
    guard_same t trans (Some g) lt con is gu = ap is_true (value_same a.seen b.seen g (record {
      states = λ s h. alike.states s (read_state s (read_in_guard (reads_state s) t trans g lt con is gu h));
      vars = λ x h. alike.vars x (read_var x (read_in_guard (reads_var x) t trans g lt con is gu h));
      counts = λ n h. alike.counts n (read_act n (read_in_guard (reads_act n) t trans g lt con is gu h));
      dones = λ n h. alike.dones n (read_act n (read_in_guard (reads_act n) t trans g lt con is gu h));
    }))

    event_same : (t : ℕ) (trans : Transition) (o : Option EventId) → t < length chart.transitions → concerns chart u t ≡ true → slice_get chart.transitions t ≡ Some trans → trans.event ≡ o → has_event a.there o ≡ has_event b.there o
    event_same t trans None lt con is ev = refl
    event_same t trans (Some e) lt con is ev = alike.there e.0 ((chart_of chart ok).known_event t trans e is ev) (known_trigger t trans e lt con is ev)

    ready_same : (t : ℕ) (trans : Transition) → t < length chart.transitions → concerns chart u t ≡ true → slice_get chart.transitions t ≡ Some trans → is_ready_in a (part_transition chart u (t, trans)) ≡ is_ready b trans
    ready_same t trans lt con is =
        let from : source chart t ≡ trans.source.0 = ap (λ (o : Option Transition). unwrap_or (option_map (λ x. x.source.0) o) 0) is in
        ap₂ (λ (p q : Bool). p && q) (alike.states trans.source.0 (subst (λ (s : ℕ). knows_state chart u s ≡ true) from (known_source t lt con)))
        (ap₂ (λ (p q : Bool). p && q) (event_same t trans trans.event lt con is refl) (guard_same t trans trans.guard lt con is refl))

    ready_known : (t : ℕ) → t < length chart.transitions → concerns chart u t ≡ true → is_ready_in a (trans_at chart u t) ≡ is_enabled chart b t
    unfolding is_enabled
    ready_known t lt con =
        let w = item_at chart.transitions t lt in
        ap (is_ready_in a) (at_some t w.0 w.1) ∙ ready_same t w.0 lt con w.1 ∙ ap (λ (o : Option Transition). unwrap_or (option_map (is_ready b) o) false) (sym w.1)

    enabled_known : (t : ℕ) → t < length chart.transitions → concerns chart u t ≡ true → is_enabled_in (part_of chart u) a t ≡ is_enabled chart b t
    enabled_known t lt con = ap (λ (o : Option PartTransition). option_map_or (is_ready_in a) o false) (trans_found t lt con) ∙ ready_known t lt con

    fired_known : (t : ℕ) → t < length chart.transitions → concerns chart u t ≡ true → is_fired_in (part_of chart u) a (trans_at chart u t) ≡ fires chart (is_enabled chart b) t
    fired_known t lt con =
        let w = item_at chart.transitions t lt in
        ap₂ (λ (p q : Bool). p && not q) (ready_known t lt con)
        (ap (λ (p : PartTransition). list_any (λ i. is_enabled_in (part_of chart u) a i.0) p.blockers) (at_some t w.0 w.1)
        ∙ any_map (λ (i : TransId). is_enabled_in (part_of chart u) a i.0) trans_id (blockers chart t)
        ∙ any_agree (is_enabled_in (part_of chart u) a) (is_enabled chart b) (blockers chart t) (λ x m.
        let f = filter_mem (λ x. blocks chart x t) (all_transitions chart) x m in
        enabled_known x (transition_mem chart x f.0) (blockers_concern chart u x t ok lt con f.1)))

    pub fires_known : (t : ℕ) → t < length chart.transitions → concerns chart u t ≡ true → fires_in (part_of chart u) a t ≡ fires chart (is_enabled chart b) t
    fires_known t lt con = ap (λ (o : Option PartTransition). option_map_or (is_fired_in (part_of chart u) a) o false) (trans_found t lt con) ∙ fired_known t lt con

    own_at : (t : ℕ) → t < length chart.transitions → (trans_at chart u t).own ≡ is_own chart u t
    own_at t lt = let w = item_at chart.transitions t lt in ap (λ (p : PartTransition). p.own) (at_some t w.0 w.1)

    -- the unit's own transitions that fire
    pub own_fired_are : own_fired (part_of chart u) a ≡ map (trans_at chart u) (filter (is_own chart u) (filter (fires chart (is_enabled chart b)) (all_transitions chart)))
    own_fired_are =
        ap (filter (λ p. p.own && is_fired_in (part_of chart u) a p)) trans_of_part
        ∙ filter_map_swap (trans_at chart u) (λ p. p.own && is_fired_in (part_of chart u) a p) (filter (concerns chart u) (all_transitions chart))
        ∙ ap (map (trans_at chart u))
        (filter_filter (λ t. (trans_at chart u t).own && is_fired_in (part_of chart u) a (trans_at chart u t)) (concerns chart u) (all_transitions chart)
        ∙ filter_agree (λ t. ((trans_at chart u t).own && is_fired_in (part_of chart u) a (trans_at chart u t)) && concerns chart u t) (λ t. is_own chart u t && fires chart (is_enabled chart b) t) (all_transitions chart)
        (λ t m. let lt : t < length chart.transitions = transition_mem chart t m in go t lt (is_own chart u t) refl (concerns chart u t) refl)
        ∙ sym (filter_filter (is_own chart u) (fires chart (is_enabled chart b)) (all_transitions chart)))
      where
        go : (t : ℕ) → t < length chart.transitions → (o : Bool) → is_own chart u t ≡ o → (k : Bool) → concerns chart u t ≡ k →
            (((trans_at chart u t).own && is_fired_in (part_of chart u) a (trans_at chart u t)) && k) ≡ (o && fires chart (is_enabled chart b) t)
        go t lt true e true q = ap₂ (λ (p r : Bool). (p && r) && true) (own_at t lt ∙ e) (fired_known t lt q) ∙ and_yes (fires chart (is_enabled chart b) t)
          where
            and_yes : (b : Bool) → (b && true) ≡ b
            and_yes true = refl
            and_yes false = refl
        go t lt true e false q = absurd (Rattle.std.proofs.Common.true≢false (sym (own_concerns chart u t ok lt e) ∙ q))
        go t lt false e k q = ap (λ (p : Bool). (p && is_fired_in (part_of chart u) a (trans_at chart u t)) && k) (own_at t lt ∙ e)

    -- its actions read what it knows
    pub own_shown : (t : ℕ) → t < length chart.transitions → is_own chart u t ≡ true → ShowActions a b (actions_of chart t)
    own_shown t lt own =
        let w = item_at chart.transitions t lt in
        subst (λ (l : List Action). ShowActions a b l) (sym (ap (λ (o : Option Transition). unwrap_or (option_map (λ trans. trans.actions) o) []) w.1))
        (record {
          states = λ s h. alike.states s (read_state s (read_in_values (reads_state s) t w.0 lt own w.1 h));
          vars = λ x h. alike.vars x (read_var x (read_in_values (reads_var x) t w.0 lt own w.1 h));
          counts = λ n h. alike.counts n (read_act n (read_in_values (reads_act n) t w.0 lt own w.1 h));
          dones = λ n h. alike.dones n (read_act n (read_in_values (reads_act n) t w.0 lt own w.1 h));
        })
