-- A chart has no first fault exactly where it is accepted.
use Rattle.std.proofs.Common.{◌≡◌, ℕ, ◌&&◌, Bool, true, false, List, [], ◌∷◌, length, None, is_none, unwrap_or, slice_get, refl, sym, ap, ap₂, ◌∙◌, arith}
use Rattle.std.specs.Prelude.{nat_le, nat_lt}
use Rattle.std.specs.List.{list_all, enumerate_from}
use Rattle.std.specs.Option.{option_map}
use Rattle.std.proofs.Math.Bool.{and-true}
use Rattle.std.proofs.lemmas.Bool.{and_parts, leb-true, lt-ltb}
use Rattle.wf_model.specs.Limits.{max_units, max_events, max_vars, max_acts, max_states, max_transitions, max_nodes, max_depth}
use Rattle.wf_model.specs.declared.chart.Chart.{Chart}
use Rattle.wf_model.specs.declared.chart.State.{State}
use Rattle.wf_model.specs.declared.chart.Transition.{Transition}
use Rattle.wf_model.specs.declared.chart.Kind.TheVariants.{Basic}
use Rattle.wf_model.specs.declared.value.Sort.TheVariants as sorts
use Rattle.wf_model.specs.Names.{is_name}
use Rattle.wf_model.specs.Tree.{kind, is_or, ancestors}
use Rattle.wf_model.specs.Seen.{val_sort}
use Rattle.wf_model.specs.Sorts.{alike}
use Rattle.wf_model.specs.Accepted.{IsAccepted, is_accepted, is_small, is_numbered, is_named, is_shaped, is_sorted, all_of, all_numbered, nodes, is_small_action, is_small_transition, names_of, is_new, suits, has_child, spares_root, is_sorted_transition, is_sorted_action, has_sort, is_placed_event, is_known_activity, is_placed_state, is_known_transition, are_outputs}
use Rattle.wf_check.specs.Firsts.{first_from}
use Rattle.wf_check.specs.Limited.{size_fault, has_few_actions, has_few_outputs, has_small_exprs, AreFew}
use Rattle.wf_check.specs.Numbered.{number_fault, bad_state}
use Rattle.wf_check.specs.Naming.{name_fault, is_good_name}
use Rattle.wf_check.specs.Rooted.{shape_fault}
use Rattle.wf_check.specs.Sorted.{sort_fault, transition_fault}
use Rattle.wf_check.specs.FirstFault.{first_fault}
use Rattle.wf_check.proofs.Parts.{none_of, none-or, none-map, none-unless, none-failing, none-numbered, none-from, all-both, all_same, all-unnumbered}

and_assoc : (a b c : Bool) → (a && (b && c)) ≡ ((a && b) && c)
and_assoc true b c = refl
and_assoc false b c = refl

-- LIMITS

-- the tests of the limits, in the checker's order and in that of the rules
size_bools : (u e v a s t few outs small : Bool) → (u && (e && (v && (a && (s && (t && (few && (outs && (small && true)))))))))
    ≡ (((((((u && e) && v) && a) && s) && t) && outs) && (few && small))
size_bools false e v a s t few outs small = refl
size_bools true false v a s t few outs small = refl
size_bools true true false a s t few outs small = refl
size_bools true true true false s t few outs small = refl
size_bools true true true true false t few outs small = refl
size_bools true true true true true false few outs small = refl
size_bools true true true true true true true true small = and-true small
size_bools true true true true true true true false small = refl
size_bools true true true true true true false true small = refl
size_bools true true true true true true false false small = refl

small_parts : (t : Transition) → is_small_transition t ≡ (has_few_actions t && has_small_exprs t)
small_parts t = by (all_of (λ guard. nat_le (nodes guard) max_nodes) t.guard) (has_few_actions t) (list_all is_small_action t.actions)
  where
    by : (g f s : Bool) → ((g && f) && s) ≡ (f && (g && s))
    by true true s = refl
    by true false s = refl
    by false true s = refl
    by false false s = refl

small_all : (ts : List Transition) → list_all is_small_transition ts ≡ (list_all has_few_actions ts && list_all has_small_exprs ts)
small_all ts = all_same is_small_transition (λ t. has_few_actions t && has_small_exprs t) small_parts ts ∙ all-both has_few_actions has_small_exprs ts

module _ (c : Chart) where
  abbrev size_tests : Bool
  size_tests =
      nat_le (length c.units) max_units && (nat_le (length c.events) max_events && (nat_le (length c.vars) max_vars
      && (nat_le (length c.acts) max_acts && (nat_le (length c.states) max_states && (nat_le (length c.transitions) max_transitions
      && (list_all has_few_actions c.transitions && (list_all has_few_outputs c.acts && (list_all has_small_exprs c.transitions && true))))))))

  by_sizes : is_none (size_fault c) ≡ size_tests
  unfolding size_fault
  by_sizes = simp (none-or, none-unless)

  pub none-size : is_none (size_fault c) ≡ is_small c
  unfolding is_small
  none-size =
      by_sizes
      ∙ size_bools (nat_le (length c.units) max_units) (nat_le (length c.events) max_events) (nat_le (length c.vars) max_vars) (nat_le (length c.acts) max_acts)
      (nat_le (length c.states) max_states) (nat_le (length c.transitions) max_transitions) (list_all has_few_actions c.transitions)
      (list_all has_few_outputs c.acts) (list_all has_small_exprs c.transitions)
      ∙ ap (λ (b : Bool).
      nat_le (length c.units) max_units && nat_le (length c.events) max_events && nat_le (length c.vars) max_vars
      && nat_le (length c.acts) max_acts && nat_le (length c.states) max_states && nat_le (length c.transitions) max_transitions
      && list_all has_few_outputs c.acts && b) (sym (small_all c.transitions))

  -- what a chart within the limits has
  pub few : size_fault c ≡ None → AreFew c
  few e =
      let all : size_tests ≡ true = sym by_sizes ∙ ap is_none e in
      let p1 = and_parts _ _ all in
      let p2 = and_parts _ _ p1.1 in
      let p3 = and_parts _ _ p2.1 in
      let p4 = and_parts _ _ p3.1 in
      let p5 = and_parts _ _ p4.1 in
      let p6 = and_parts _ _ p5.1 in
      let p7 = and_parts _ _ p6.1 in
      record {
        units = leb-true (length c.units) max_units p1.0;
        events = leb-true (length c.events) max_events p2.0;
        vars = leb-true (length c.vars) max_vars p3.0;
        acts = leb-true (length c.acts) max_acts p4.0;
        states = leb-true (length c.states) max_states p5.0;
        transitions = leb-true (length c.transitions) max_transitions p6.0;
        few_actions = p7.0;
      }

  -- NUMBERS

  abbrev number_tests : Bool
  number_tests =
      nat_lt 0 (length c.events) && (all_numbered (is_placed_event c) c.events && (list_all (is_known_activity c) c.acts
      && (all_numbered (is_placed_state c) c.states && (list_all (is_known_transition c) c.transitions && true))))

  by_numbers : is_none (number_fault c) ≡ number_tests
  unfolding number_fault
  by_numbers = simp (none-or, none-unless, none-map, none-failing, none-numbered)

  pub none-number : is_none (number_fault c) ≡ is_numbered c
  unfolding is_numbered
  none-number = by_numbers ∙ number_bools (nat_lt 0 (length c.events)) (all_numbered (is_placed_event c) c.events) (list_all (is_known_activity c) c.acts) (all_numbered (is_placed_state c) c.states) (list_all (is_known_transition c) c.transitions)
    where
      number_bools : (e p a s t : Bool) → (e && (p && (a && (s && (t && true))))) ≡ ((((e && p) && a) && s) && t)
      number_bools false p a s t = refl
      number_bools true false a s t = refl
      number_bools true true false s t = refl
      number_bools true true true false t = refl
      number_bools true true true true t = and-true t

  pub placed : number_fault c ≡ None → bad_state c ≡ None
  placed e =
      none_of (bad_state c) (none-numbered (is_placed_state c) c.states
      ∙ fourth (nat_lt 0 (length c.events)) (all_numbered (is_placed_event c) c.events) (list_all (is_known_activity c) c.acts) (all_numbered (is_placed_state c) c.states) (list_all (is_known_transition c) c.transitions && true) (sym by_numbers ∙ ap is_none e))
    where
      fourth : (e p a s t : Bool) → (e && (p && (a && (s && t)))) ≡ true → s ≡ true
      fourth e p a s t h = (and_parts s t (and_parts a (s && t) (and_parts p (a && (s && t)) (and_parts e (p && (a && (s && t))) h).1).1).1).0

  -- NAMES

  good_names : all_numbered (is_good_name (names_of c)) (names_of c) ≡ (list_all is_name (names_of c) && all_numbered (is_new (names_of c)) (names_of c))
  good_names =
      all-both (λ (p : ℕ × List ℕ). is_name p.1) (λ (p : ℕ × List ℕ). is_new (names_of c) p.0 p.1) (enumerate_from 0 (names_of c))
      ∙ ap (λ (b : Bool). b && all_numbered (is_new (names_of c)) (names_of c)) (all-unnumbered is_name 0 (names_of c))

  by_names : is_none (name_fault c) ≡ (is_name c.name && (all_numbered (is_good_name (names_of c)) (names_of c) && true))
  unfolding name_fault
  by_names = simp (none-or, none-unless, none-map, none-numbered)

  pub none-name : is_none (name_fault c) ≡ is_named c
  unfolding is_named
  none-name =
      by_names
      ∙ ap (λ (b : Bool). is_name c.name && b) (and-true (all_numbered (is_good_name (names_of c)) (names_of c)) ∙ good_names)
      ∙ and_assoc (is_name c.name) (list_all is_name (names_of c)) (all_numbered (is_new (names_of c)) (names_of c))

  -- SHAPE

  -- a root that is an Or state is there
  root_there : (nat_lt 0 (length c.states) && is_or (kind c 0)) ≡ is_or (kind c 0)
  root_there = go c.states
    where
      go : (states : List State) → (nat_lt 0 (length states) && is_or (unwrap_or (option_map (λ state. state.kind) (slice_get states 0)) Basic)) ≡ is_or (unwrap_or (option_map (λ state. state.kind) (slice_get states 0)) Basic)
      go [] = refl
      go (x ∷ xs) = ap (λ (b : Bool). b && is_or x.kind) (lt-ltb 0 (length (x ∷ xs)) (omega arith))

  abbrev is_high : ℕ → State → Bool
  is_high s state = nat_lt (length (ancestors c s)) max_depth

  abbrev is_fit : ℕ → State → Bool
  is_fit s state = suits state.kind (has_child c s)

  by_shape : is_none (shape_fault c) ≡ (nat_lt 0 (length c.states) && (is_or (kind c 0) && (all_numbered is_high c.states && (all_numbered is_fit c.states && true))))
  unfolding shape_fault
  by_shape = simp (none-or, none-unless, none-map, none-numbered)

  pub none-shape : is_none (shape_fault c) ≡ is_shaped c
  unfolding is_shaped
  none-shape =
      by_shape
      ∙ shape_bools (nat_lt 0 (length c.states)) (is_or (kind c 0)) (all_numbered is_high c.states) (all_numbered is_fit c.states)
      ∙ ap₂ (λ (a b : Bool). a && b) root_there (sym (all-both (λ (p : ℕ × State). is_high p.0 p.1) (λ (p : ℕ × State). is_fit p.0 p.1) (enumerate_from 0 c.states)))
    where
      shape_bools : (a b h f : Bool) → (a && (b && (h && (f && true)))) ≡ ((a && b) && (h && f))
      shape_bools false b h f = refl
      shape_bools true false h f = refl
      shape_bools true true false f = refl
      shape_bools true true true f = and-true f

  -- SORTS, OUTPUTS, TRANSITIONS

  abbrev rule_tests : Transition → Bool
  rule_tests trans =
      nat_lt 0 trans.source.0 && (nat_lt 0 trans.target.0 && (all_of (λ guard. has_sort c guard sorts.Bool) trans.guard
      && (list_all (is_sorted_action c) trans.actions && true)))

  by_rules : (t : ℕ) (trans : Transition) → is_none (transition_fault c t trans) ≡ rule_tests trans
  unfolding transition_fault
  by_rules t trans = simp (none-or, none-unless, none-map, none-failing)

  pub none-transition : (t : ℕ) (trans : Transition) → is_none (transition_fault c t trans) ≡ (spares_root trans && is_sorted_transition c trans)
  none-transition t trans =
      by_rules t trans
      ∙ bools (nat_lt 0 trans.source.0) (nat_lt 0 trans.target.0) (all_of (λ guard. has_sort c guard sorts.Bool) trans.guard) (list_all (is_sorted_action c) trans.actions)
    where
      bools : (a b g s : Bool) → (a && (b && (g && (s && true)))) ≡ ((a && b) && (g && s))
      bools false b g s = refl
      bools true false g s = refl
      bools true true false s = refl
      bools true true true s = and-true s

  moves : is_none (first_from (transition_fault c) 0 c.transitions) ≡ (list_all spares_root c.transitions && list_all (is_sorted_transition c) c.transitions)
  moves =
      none-from (transition_fault c) (λ t. spares_root t && is_sorted_transition c t) none-transition 0 c.transitions
      ∙ all-both spares_root (is_sorted_transition c) c.transitions

  by_sorts : is_none (sort_fault c) ≡ (list_all (λ x. alike (val_sort x.first) x.sort) c.vars && (list_all are_outputs c.acts && (is_none (first_from (transition_fault c) 0 c.transitions) && true)))
  unfolding sort_fault
  by_sorts = simp (none-or, none-map, none-failing)

  pub none-sort : is_none (sort_fault c) ≡ ((list_all are_outputs c.acts && list_all spares_root c.transitions) && is_sorted c)
  unfolding is_sorted
  none-sort =
      by_sorts
      ∙ ap (λ (b : Bool). list_all (λ x. alike (val_sort x.first) x.sort) c.vars && (list_all are_outputs c.acts && (b && true))) moves
      ∙ sort_bools (list_all (λ x. alike (val_sort x.first) x.sort) c.vars) (list_all are_outputs c.acts) (list_all spares_root c.transitions) (list_all (is_sorted_transition c) c.transitions)
    where
      sort_bools : (v o r s : Bool) → (v && (o && ((r && s) && true))) ≡ ((o && r) && (v && s))
      sort_bools true true true s = and-true s
      sort_bools true true false s = refl
      sort_bools true false r s = refl
      sort_bools false true true s = refl
      sort_bools false true false s = refl
      sort_bools false false r s = refl

  -- ALL RULES

  by_faults : is_none (first_fault c) ≡ (is_none (size_fault c) && (is_none (number_fault c) && (is_none (name_fault c) && (is_none (shape_fault c) && (is_none (sort_fault c) && true)))))
  unfolding first_fault
  by_faults = simp none-or

  pub none-fault : is_none (first_fault c) ≡ is_accepted c
  unfolding is_accepted
  none-fault =
      by_faults
      ∙ simp (none-size, none-number, none-name, none-shape, none-sort) (bools (is_small c) (is_numbered c) (is_named c) (is_shaped c) (list_all are_outputs c.acts) (list_all spares_root c.transitions) (is_sorted c))
    where
      bools : (a b n s o r t : Bool) → (a && (b && (n && (s && (((o && r) && t) && true))))) ≡ ((((((a && b) && n) && s) && o) && r) && t)
      bools false b n s o r t = refl
      bools true false n s o r t = refl
      bools true true false s o r t = refl
      bools true true true false o r t = refl
      bools true true true true false r t = refl
      bools true true true true true false t = refl
      bools true true true true true true t = and-true t

  pub faultless : first_fault c ≡ None → IsAccepted c
  faultless e = sym none-fault ∙ ap is_none e

  pub accepted : IsAccepted c → first_fault c ≡ None
  accepted h = none_of (first_fault c) (none-fault ∙ h)
