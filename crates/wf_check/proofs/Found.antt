-- Items found in a list: within it, by one step, and fitting a number of the chart.
use Rattle.std.proofs.Common.{◌≡◌, ℕ, zero, suc, ◌+◌, ◌<◌, ◌≤◌, ◌^◌, ◌&&◌, not, cond, Bool, true, List, [], ◌∷◌, length, map, drop, get_or, Option, Some, None, sym, ap, ◌∙◌, arith, add-one, drop-cons, length-append}
use Rattle.std.specs.Prelude.{nat_lt}
use Rattle.std.specs.List.{list_all, position_from, position_or_len, enumerate_from}
use Rattle.std.specs.Option.{option_or}
use Rattle.std.specs.Bool.{IsTrue}
use Rattle.std.proofs.lemmas.Bool.{and_parts, leb-true}
use Rattle.std.proofs.lemmas.List.{length-map}
use Rattle.std.proofs.lemmas.Iterator.Adapters.{position_from-zero}
use Rattle.std.proofs.lemmas.Bool.Decides.{nat_tests}
use Rattle.std.proofs.lemmas.List.FromFn.{length-enumerate_from}
use Rattle.wf_model.specs.declared.chart.Chart.{Chart}
use Rattle.wf_model.specs.declared.chart.Transition.{Transition}
use Rattle.wf_model.specs.declared.chart.Event.{Event}
use Rattle.wf_model.specs.declared.chart.Variable.{Variable}
use Rattle.wf_model.specs.declared.chart.Activity.{Activity}
use Rattle.wf_model.specs.declared.chart.State.{State}
use Rattle.wf_model.specs.Limits.{max_actions, max_depth}
use Rattle.wf_model.specs.Tree.{ancestors}
use Rattle.wf_model.specs.Seen.{val_sort}
use Rattle.wf_model.specs.Sorts.{alike}
use Rattle.wf_model.specs.Accepted.{names_of, is_placed_event, is_known_activity, is_placed_state, is_known_transition, has_child, suits, are_outputs, is_sorted_action}
use Rattle.wf_check.specs.declared.fault.CheckFault.{CheckFault}
use Rattle.wf_check.specs.Firsts.{first_failing, first_failing_numbered, first_from}
use Rattle.wf_check.specs.Limited.{AreFew, has_few_actions}
use Rattle.wf_check.specs.Numbered.{bad_event, bad_activity, bad_state, bad_transition}
use Rattle.wf_check.specs.Naming.{bad_name, is_good_name}
use Rattle.wf_check.specs.Rooted.{deep_state, unfit_state}
use Rattle.wf_check.specs.Sorted.{unlike_var, double_output, unlike_action}

pub failing_within : {A : Type 0} → (test : A → Bool) (xs : List A) (n : ℕ) → first_failing test xs ≡ Some n → n < length xs
failing_within test xs n e = go (position_or_len (λ x. not (test x)) xs) (length xs) e
  where
    go : (k m : ℕ) → cond (nat_lt k m) (Some k) None ≡ Some n → n < m
    go k m h = grind (arith, nat_tests)

pub numbered_within : {A : Type 0} → (test : ℕ → A → Bool) (xs : List A) (n : ℕ) → first_failing_numbered test xs ≡ Some n → n < length xs
numbered_within test xs n e =
    let within : n < length (enumerate_from 0 xs) = failing_within (λ p. test p.0 p.1) (enumerate_from 0 xs) n e in
    omega (arith, length-enumerate_from 0 xs)

-- so the numbers of parts of a chart within the limits fit their types

pub event_fits : (c : Chart) (n : ℕ) → AreFew c → bad_event c ≡ Some n → n < 2 ^ 32
event_fits c n few e = omega (arith, few.events, numbered_within (is_placed_event c) c.events n e)

pub activity_fits : (c : Chart) (n : ℕ) → AreFew c → bad_activity c ≡ Some n → n < 2 ^ 32
activity_fits c n few e = omega (arith, few.acts, failing_within (is_known_activity c) c.acts n e)

pub state_fits : (c : Chart) (n : ℕ) → AreFew c → bad_state c ≡ Some n → n < 2 ^ 32
state_fits c n few e = omega (arith, few.states, numbered_within (is_placed_state c) c.states n e)

pub transition_fits : (c : Chart) (n : ℕ) → AreFew c → bad_transition c ≡ Some n → n < 2 ^ 32
transition_fits c n few e = omega (arith, few.transitions, failing_within (is_known_transition c) c.transitions n e)

pub deep_fits : (c : Chart) (n : ℕ) → AreFew c → deep_state c ≡ Some n → n < 2 ^ 32
deep_fits c n few e = omega (arith, few.states, numbered_within (λ s state. nat_lt (length (ancestors c s)) max_depth) c.states n e)

pub unfit_fits : (c : Chart) (n : ℕ) → AreFew c → unfit_state c ≡ Some n → n < 2 ^ 32
unfit_fits c n few e = omega (arith, few.states, numbered_within (λ s state. suits state.kind (has_child c s)) c.states n e)

pub var_fits : (c : Chart) (n : ℕ) → AreFew c → unlike_var c ≡ Some n → n < 2 ^ 32
var_fits c n few e = omega (arith, few.vars, failing_within (λ x. alike (val_sort x.first) x.sort) c.vars n e)

pub output_fits : (c : Chart) (n : ℕ) → AreFew c → double_output c ≡ Some n → n < 2 ^ 32
output_fits c n few e = omega (arith, few.acts, failing_within are_outputs c.acts n e)

pub action_fits : (c : Chart) (t : Transition) (n : ℕ) → IsTrue (has_few_actions t) → unlike_action c t ≡ Some n → n < 2 ^ 8
action_fits c t n few e = omega (arith, leb-true (length t.actions) max_actions few, failing_within (is_sorted_action c) t.actions n e)

-- all names are few
pub name_fits : (c : Chart) (n : ℕ) → AreFew c → bad_name (names_of c) ≡ Some n → n < 2 ^ 32
name_fits c n few e =
    let within : n < length (names_of c) = numbered_within (is_good_name (names_of c)) (names_of c) n e in
    let events : length (map (λ x. x.name) c.events) ≡ length c.events = length-map c.events (λ (x : Event). x.name) in
    let vars : length (map (λ x. x.name) c.vars) ≡ length c.vars = length-map c.vars (λ (x : Variable). x.name) in
    let acts : length (map (λ x. x.name) c.acts) ≡ length c.acts = length-map c.acts (λ (x : Activity). x.name) in
    let states : length (map (λ x. x.name) c.states) ≡ length c.states = length-map c.states (λ (x : State). x.name) in
    let small : length (names_of c) ≤ length c.units + length c.events + length c.vars + length c.acts + length c.states = simp length-append (omega arith) in
    omega (arith, few.units, few.events, few.vars, few.acts, few.states)

-- ONE STEP OF A LOOP

pub all_step : {A : Type 0} → (test : A → Bool) (xs : List A) (i : ℕ) (d : A) → i < length xs → list_all test (drop i xs) ≡ (test (get_or xs i d) && list_all test (drop (i + 1) xs))
all_step {A} test xs i d h = ap (list_all test) (drop-cons xs i d h) ∙ ap (λ (k : ℕ). test (get_or xs i d) && list_all test (drop k xs)) (sym (add-one i))

-- the first item that fails, where items count from n
abbrev pub failing_from : {A : Type 0} → (A → Bool) → ℕ → List A → Option ℕ
failing_from test n xs = position_from (λ x. not (test x)) n xs

pub failing_start : {A : Type 0} → (test : A → Bool) (xs : List A) → first_failing test xs ≡ failing_from test 0 xs
failing_start test xs = position_from-zero (λ x. not (test x)) xs

pub position_step : {A : Type 0} → (test : A → Bool) (xs : List A) (i : ℕ) (d : A) → i < length xs → failing_from test i (drop i xs) ≡ cond (not (test (get_or xs i d))) (Some i) (failing_from test (i + 1) (drop (i + 1) xs))
position_step {A} test xs i d h = ap (failing_from test i) (drop-cons xs i d h) ∙ ap (λ (k : ℕ). cond (not (test (get_or xs i d))) (Some i) (failing_from test (i + 1) (drop k xs))) (sym (add-one i))

pub first_step : {A : Type 0} → (fault : ℕ → A → Option CheckFault) (xs : List A) (i : ℕ) (d : A) → i < length xs → first_from fault i (drop i xs) ≡ option_or (fault i (get_or xs i d)) (first_from fault (i + 1) (drop (i + 1) xs))
first_step {A} fault xs i d h = ap (first_from fault i) (drop-cons xs i d h) ∙ ap (λ (k : ℕ). option_or (fault i (get_or xs i d)) (first_from fault (i + 1) (drop k xs))) (sym (add-one i))

-- an item of a list whose items all pass
pub all_at : {A : Type 0} → (test : A → Bool) (xs : List A) (i : ℕ) (d : A) → list_all test xs ≡ true → i < length xs → test (get_or xs i d) ≡ true
all_at test [] i d h lt = absurd (omega arith)
all_at test (x ∷ xs) zero d h lt = (and_parts (test x) (list_all test xs) h).0
all_at test (x ∷ xs) (suc i) d h lt = all_at test xs i d (and_parts (test x) (list_all test xs) h).1 (omega arith)
