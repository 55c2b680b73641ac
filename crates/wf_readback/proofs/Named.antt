-- The names of an accepted chart are declared as what they are.
use Rattle.std.proofs.Common.{◌≡◌, ℕ, zero, suc, ◌+◌, ◌<◌, ◌&&◌, nat_lt, true, List, [], ◌∷◌, ◌++◌, length, drop, map, slice_get, Option, Some, None, is_none, refl, sym, ◌∙◌, ap, subst, arith, append-nil, append_assoc}
use Rattle.std.specs.List.{list_all, enumerate_from}
use Rattle.std.specs.Option.{option_map_or}
use Rattle.std.specs.Str.{bytes_eq}
use Rattle.std.proofs.lemmas.Slice.Eq.{bytes_eq-Decides}
use lib.Chars.{codes}
use Rattle.wf_model.specs.declared.ids.UnitId.{UnitId}
use Rattle.wf_model.specs.declared.chart.Event.{Event}
use Rattle.wf_model.specs.declared.chart.Variable.{Variable}
use Rattle.wf_model.specs.declared.chart.Activity.{Activity}
use Rattle.wf_model.specs.declared.chart.State.{State}
use Rattle.wf_model.specs.declared.chart.Chart.{Chart}
use Rattle.wf_model.specs.Accepted.{IsAccepted, is_accepted, is_named, is_numbered, is_new, is_unit, is_placed_event, all_numbered, all_of, names_of}
use Rattle.wf_model.proofs.Bools.{and_both}
use Rattle.wf_cursor.specs.declared.names.Declared.{Declared}
use Rattle.wf_cursor.specs.Names.{declared_as}
use Rattle.wf_words.specs.Names.{unit_name, var_name, act_name}
use Rattle.wf_grammar.specs.Phrases.{Names}
use Rattle.wf_readback.proofs.Known.{is_named_of}
use Rattle.wf_readback.proofs.Declares.{declared_from, unit_of, event_of, var_of, act_of, state_of, fault_alone, names_before_states, all_names}
use Rattle.wf_readback.proofs.Reading.{NamesAreDeclared}
use Rattle.wf_readback.proofs.New.{AreNew, AreNewIn, Covers, kind_of, are_new, to_front, each_found, found_before}

abbrev pub events_behind : Chart → List Event
events_behind chart = drop 1 chart.events

-- the first event is `fault`, at no unit
pub record HasFault (chart : Chart) : Type 0 where
  pub first : Event
  pub events : chart.events ≡ first ∷ events_behind chart
  pub name : first.name ≡ codes "fault"
  pub unit : first.unit ≡ None

is_numbered_of : (chart : Chart) → IsAccepted chart → is_numbered chart ≡ true
unfolding is_accepted
is_numbered_of chart ok = grind arith

some_events : (chart : Chart) → is_numbered chart ≡ true → nat_lt 0 (length chart.events) ≡ true
unfolding is_numbered
some_events chart h = grind arith

placed_events : (chart : Chart) → is_numbered chart ≡ true → all_numbered (is_placed_event chart) chart.events ≡ true
unfolding is_numbered
placed_events chart h = grind arith

none_of : (u : Option UnitId) → is_none u ≡ true → u ≡ None
none_of None h = refl
none_of (Some u) h = cc

fault_first : (chart : Chart) (events : List Event) → nat_lt 0 (length events) ≡ true → all_numbered (is_placed_event chart) events ≡ true → (e : Event) × (events ≡ e ∷ drop 1 events) × (e.name ≡ codes "fault") × (e.unit ≡ None)
fault_first chart [] some h = cc
fault_first chart (e ∷ es) some h =
    let p = and_both (is_placed_event chart 0 e) (list_all (λ q. is_placed_event chart q.0 q.1) (enumerate_from 1 es)) h in
    let q = and_both (bytes_eq e.name (codes "fault") && is_none e.unit) (all_of (is_unit chart) e.unit) p.0 in
    let r = and_both (bytes_eq e.name (codes "fault")) (is_none e.unit) q.0 in
    (e, refl, (bytes_eq-Decides e.name (codes "fault")).0 r.0, none_of e.unit r.1)

pub has_fault : (chart : Chart) → IsAccepted chart → HasFault chart
has_fault chart ok =
    let n = is_numbered_of chart ok in
    let f = fault_first chart chart.events (some_events chart n) (placed_events chart n) in
    record { first = f.0; events = f.1; name = f.2; unit = f.3 }

all_new : (chart : Chart) → is_named chart ≡ true → all_numbered (is_new (names_of chart)) (names_of chart) ≡ true
unfolding is_named
all_new chart h = grind arith

-- ---- in order of the text

module _ (chart : Chart) where
  abbrev event_names : List (List ℕ)
  event_names = map (λ (x : Event). x.name) (events_behind chart)

  abbrev var_names : List (List ℕ)
  var_names = map (λ (x : Variable). x.name) chart.vars

  abbrev act_names : List (List ℕ)
  act_names = map (λ (x : Activity). x.name) chart.acts

  abbrev state_names : List (List ℕ)
  state_names = map (λ (x : State). x.name) chart.states

  unit_names_are : (us : List (List ℕ)) → map (λ (x : List ℕ). x) us ≡ us
  unit_names_are [] = refl
  unit_names_are (u ∷ us) = ap (λ l. u ∷ l) (unit_names_are us)

  abbrev behind_units : List (List ℕ)
  behind_units = event_names ++ (var_names ++ (act_names ++ (state_names ++ [])))

  -- none but `fault` stands before the units
  in_order : IsAccepted chart → AreNew (codes "fault" ∷ []) (map (λ (x : List ℕ). x) chart.units ++ behind_units)
  in_order ok =
      let f = has_fault chart ok in
      let new = are_new (names_of chart) (all_new chart (is_named_of chart ok)) in
      let events_are : map (λ (x : Event). x.name) chart.events ≡ codes "fault" ∷ event_names = ap (map (λ (x : Event). x.name)) f.events ∙ ap (λ (n : List ℕ). n ∷ event_names) f.name in
      let grouped : names_of chart ≡ chart.units ++ codes "fault" ∷ behind_units =
      ap (λ (es : List (List ℕ)). chart.units ++ es ++ var_names ++ act_names ++ state_names) events_are
      ∙ append_assoc (chart.units ++ (codes "fault" ∷ event_names) ++ var_names) act_names state_names
      ∙ append_assoc (chart.units ++ (codes "fault" ∷ event_names)) var_names (act_names ++ state_names)
      ∙ append_assoc chart.units (codes "fault" ∷ event_names) (var_names ++ (act_names ++ state_names))
      ∙ ap (λ (l : List (List ℕ)). chart.units ++ ((codes "fault" ∷ event_names) ++ (var_names ++ (act_names ++ l)))) (sym (append-nil state_names)) in
      let moved = to_front [] chart.units behind_units (codes "fault") (subst (AreNew []) grouped new) in
      subst (λ (us : List (List ℕ)). AreNew (codes "fault" ∷ []) (us ++ behind_units)) (sym (unit_names_are chart.units)) moved

  fault_covered : Covers (codes "fault" ∷ []) fault_alone
  fault_covered x h = grind arith

  abbrev pub after_units : Names
  after_units = fault_alone ++ declared_from (λ x. x) unit_of 0 chart.units

  abbrev pub after_events : Names
  after_events = after_units ++ declared_from (λ x. x.name) event_of 1 (events_behind chart)

  abbrev pub after_vars : Names
  after_vars = after_events ++ declared_from (λ x. x.name) var_of 0 chart.vars

  -- each kind is new where it is declared
  pub record Orders : Type 0 where
    pub units : AreNewIn (λ (x : List ℕ). x) unit_of fault_alone 0 chart.units
    pub events : AreNewIn (λ (x : Event). x.name) event_of after_units 1 (events_behind chart)
    pub vars : AreNewIn (λ (x : Variable). x.name) var_of after_events 0 chart.vars
    pub acts : AreNewIn (λ (x : Activity). x.name) act_of after_vars 0 chart.acts
    pub states : AreNewIn (λ (x : State). x.name) state_of (names_before_states chart) 0 chart.states
    pub fault : declared_as after_units (codes "fault") ≡ Some (event_of 0)

  pub orders : IsAccepted chart → Orders
  orders ok =
      let u = kind_of (λ (x : List ℕ). x) unit_of (codes "fault" ∷ []) fault_alone 0 chart.units behind_units fault_covered (in_order ok) in
      let e = kind_of (λ (x : Event). x.name) event_of _ after_units 1 (events_behind chart) (var_names ++ (act_names ++ (state_names ++ []))) u.covers u.rest_new in
      let v = kind_of (λ (x : Variable). x.name) var_of _ after_events 0 chart.vars (act_names ++ (state_names ++ [])) e.covers e.rest_new in
      let a = kind_of (λ (x : Activity). x.name) act_of _ after_vars 0 chart.acts (state_names ++ []) v.covers v.rest_new in
      let s = kind_of (λ (x : State). x.name) state_of _ (names_before_states chart) 0 chart.states [] a.covers a.rest_new in
      record { units = u.new; events = e.new; vars = v.new; acts = a.new; states = s.new; fault = refl }

  abbrev from_vars : Names
  from_vars = declared_from (λ x. x.name) var_of 0 chart.vars

  abbrev pub from_acts : Names
  from_acts = declared_from (λ x. x.name) act_of 0 chart.acts

  abbrev from_states : Names
  from_states = declared_from (λ x. x.name) state_of 0 chart.states

  -- what is declared stays so
  stays_vars : (x : List ℕ) (what : Declared) → declared_as after_vars x ≡ Some what → declared_as (all_names chart) x ≡ Some what
  stays_vars x what h = found_before (names_before_states chart) from_states x what (found_before after_vars from_acts x what h)

  stays_events : (x : List ℕ) (what : Declared) → declared_as after_events x ≡ Some what → declared_as (all_names chart) x ≡ Some what
  stays_events x what h = stays_vars x what (found_before after_events from_vars x what h)

  stays_units : (x : List ℕ) (what : Declared) → declared_as after_units x ≡ Some what → declared_as (all_names chart) x ≡ Some what
  stays_units x what h = stays_events x what (found_before after_units (declared_from (λ x. x.name) event_of 1 (events_behind chart)) x what h)

  event_declared : IsAccepted chart → (i : ℕ) → i < length chart.events → declared_as (all_names chart) (option_map_or (λ (x : Event). x.name) (slice_get chart.events i) []) ≡ Some (event_of i)
  event_declared ok i within =
      let f = has_fault chart ok in
      subst (λ (es : List Event). i < length es → declared_as (all_names chart) (option_map_or (λ (x : Event). x.name) (slice_get es i) []) ≡ Some (event_of i)) (sym f.events) (by_place i) within
    where
      by_place : (i : ℕ) → i < length ((has_fault chart ok).first ∷ events_behind chart) → declared_as (all_names chart) (option_map_or (λ (x : Event). x.name) (slice_get ((has_fault chart ok).first ∷ events_behind chart) i) []) ≡ Some (event_of i)
      by_place zero h = ap (declared_as (all_names chart)) (has_fault chart ok).name ∙ stays_units (codes "fault") (event_of 0) (orders ok).fault
      by_place (suc i) h =
          let same : 1 + i ≡ suc i = omega arith in
          stays_events (option_map_or (λ (x : Event). x.name) (slice_get (events_behind chart) i) []) (event_of (suc i))
          (each_found (λ (x : Event). x.name) event_of after_units 1 (events_behind chart) i (orders ok).events (omega arith) ∙ ap (λ (n : ℕ). Some (event_of n)) same)

pub at_zero : (what : ℕ → Declared) (i : ℕ) → Some (what (0 + i)) ≡ Some (what i)
at_zero what i = let same : 0 + i ≡ i = omega arith in ap (λ (n : ℕ). Some (what n)) same

pub names_are_declared : NamesAreDeclared
names_are_declared chart ok =
    let o = orders chart ok in
    record {
      units = λ u within. stays_units chart (unit_name chart u) (unit_of u.0) (each_found (λ (x : List ℕ). x) unit_of fault_alone 0 chart.units u.0 o.units within ∙ at_zero unit_of u.0);
      events = λ e within. event_declared chart ok e.0 within;
      others = record {
        vars = λ x within. stays_vars chart (var_name chart x) (var_of x.0) (each_found (λ (y : Variable). y.name) var_of (after_events chart) 0 chart.vars x.0 o.vars within ∙ at_zero var_of x.0);
        states = λ s within. each_found (λ (y : State). y.name) state_of (names_before_states chart) 0 chart.states s.0 o.states within ∙ at_zero state_of s.0;
        acts = λ a within. found_before (names_before_states chart) (from_states chart) (act_name chart a) (act_of a.0) (each_found (λ (y : Activity). y.name) act_of (after_vars chart) 0 chart.acts a.0 o.acts within ∙ at_zero act_of a.0);
      };
    }
