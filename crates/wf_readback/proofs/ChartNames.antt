-- The names that an expression has are names.
use Rattle.std.proofs.Common.{◌≡◌, ℕ, zero, suc, ◌<◌, ◌≤◌, not, true, false, nat_lt, nat_le, Bool, List, [], ◌∷◌, ◌++◌, length, map, slice_get, Some, refl, ◌∙◌, ap, arith, not}
use Rattle.std.specs.List.{list_all}
use Rattle.std.specs.Option.{option_map_or}
use Rattle.std.proofs.lemmas.Bool.Decides.{nat_tests}
use Rattle.wf_model.specs.Limits.{max_name}
use Rattle.wf_model.specs.declared.ids.UnitId.{UnitId}
use Rattle.wf_model.specs.declared.ids.EventId.{EventId}
use Rattle.wf_model.specs.declared.ids.VarId.{VarId}
use Rattle.wf_model.specs.declared.ids.StateId.{StateId}
use Rattle.wf_model.specs.declared.ids.ActId.{ActId}
use Rattle.wf_model.specs.declared.chart.State.{State}
use Rattle.wf_model.specs.declared.chart.Event.{Event}
use Rattle.wf_model.specs.declared.chart.Variable.{Variable}
use Rattle.wf_model.specs.declared.chart.Activity.{Activity}
use Rattle.wf_model.specs.declared.chart.Chart.{Chart}
use Rattle.wf_model.specs.Names.{is_word, is_reserved, is_name}
use Rattle.wf_model.specs.Accepted.{is_named}
use Rattle.wf_model.proofs.Bools.{and_both}
use Rattle.wf_lex.specs.declared.token.TokenKind.TheVariants as kinds
use Rattle.wf_cursor.specs.declared.names.Declared.{Declared}
use Rattle.wf_cursor.specs.declared.piece.Piece.TheVariants as pieces
use Rattle.wf_cursor.specs.Pieces.{piece_of, word_piece}
use Rattle.wf_cursor.specs.Names.{declared_as}
use Rattle.wf_cursor.proofs.Reserved.{names_are_not_reserved}
use Rattle.wf_words.specs.Names.{unit_name, event_name, var_name, state_name, act_name}
use Rattle.wf_grammar.specs.Phrases.{Names, IsNameOf}
use Rattle.wf_grammar.proofs.Inputs.{same_is}
use Rattle.wf_readback.proofs.Spans.{lexeme}

pub name_is_word : (name : List ℕ) → is_name name ≡ true → is_word name ≡ true
unfolding is_name
name_is_word name h = grind arith

pub name_is_short : (name : List ℕ) → is_name name ≡ true → length name ≤ max_name
unfolding is_name
name_is_short name h =
    let short : nat_le (length name) max_name ≡ true = grind arith in
    grind (arith, nat_tests)

name_is_free : (name : List ℕ) → is_name name ≡ true → is_reserved name ≡ false
unfolding is_name
name_is_free name h = grind arith

pub name_piece : (name : List ℕ) → is_name name ≡ true → piece_of kinds.Word name ≡ pieces.Name
unfolding piece_of
name_piece name h = same_is (word_piece name) pieces.Name (names_are_not_reserved name ∙ ap not (name_is_free name h))

-- a name that is declared as this is one to the grammar
pub name_lexeme : (names : Names) (what : Declared) (name : List ℕ) → is_name name ≡ true → declared_as names name ≡ Some what → IsNameOf names what (lexeme kinds.Word name)
name_lexeme names what name h is = record { is_name = name_piece name h; is_short = name_is_short name h; is_declared = is }

-- ---- of a chart

named_at : {A : Type 0} (name : A → List ℕ) (xs : List A) (i : ℕ) → list_all (λ x. is_name (name x)) xs ≡ true → i < length xs → is_name (option_map_or name (slice_get xs i) []) ≡ true
named_at name [] i h within = absurd (omega arith)
named_at name (x ∷ xs) zero h within = (and_both (is_name (name x)) (list_all (λ x. is_name (name x)) xs) h).0
named_at name (x ∷ xs) (suc i) h within = named_at name xs i (and_both (is_name (name x)) (list_all (λ x. is_name (name x)) xs) h).1 (omega arith)

all_append : {A : Type 0} (test : A → Bool) (xs ys : List A) → list_all test (xs ++ ys) ≡ true → (list_all test xs ≡ true) × (list_all test ys ≡ true)
all_append test [] ys h = (refl, h)
all_append test (x ∷ xs) ys h =
    let p = and_both (test x) (list_all test (xs ++ ys)) h in
    let q = all_append test xs ys p.1 in
    (rw p.0 q.0, q.1)

all_map : {A B : Type 0} (test : B → Bool) (f : A → B) (xs : List A) → list_all test (map f xs) ≡ true → list_all (λ x. test (f x)) xs ≡ true
all_map test f [] h = refl
all_map test f (x ∷ xs) h = let p = and_both (test (f x)) (list_all test (map f xs)) h in rw p.0 (all_map test f xs p.1)

pub record HasNames (chart : Chart) : Type 0 where
  pub own : is_name chart.name ≡ true
  pub units : list_all (λ x. is_name x) chart.units ≡ true
  pub events : list_all (λ x. is_name x.name) chart.events ≡ true
  pub vars : list_all (λ x. is_name x.name) chart.vars ≡ true
  pub acts : list_all (λ x. is_name x.name) chart.acts ≡ true
  pub states : list_all (λ x. is_name x.name) chart.states ≡ true

pub has_names : (chart : Chart) → is_named chart ≡ true → HasNames chart
unfolding is_named
has_names chart h =
    let events = map (λ (x : Event). x.name) chart.events in
    let vars = map (λ (x : Variable). x.name) chart.vars in
    let acts = map (λ (x : Activity). x.name) chart.acts in
    let states = map (λ (x : State). x.name) chart.states in
    let own : is_name chart.name ≡ true = grind arith in
    let all : list_all is_name (chart.units ++ events ++ vars ++ acts ++ states) ≡ true = grind arith in
    let before_states = all_append is_name (chart.units ++ events ++ vars ++ acts) states all in
    let before_acts = all_append is_name (chart.units ++ events ++ vars) acts before_states.0 in
    let before_vars = all_append is_name (chart.units ++ events) vars before_acts.0 in
    let before_events = all_append is_name chart.units events before_vars.0 in
    record {
      own = own;
      units = before_events.0;
      events = all_map is_name (λ (x : Event). x.name) chart.events before_events.1;
      vars = all_map is_name (λ (x : Variable). x.name) chart.vars before_vars.1;
      acts = all_map is_name (λ (x : Activity). x.name) chart.acts before_acts.1;
      states = all_map is_name (λ (x : State). x.name) chart.states before_states.1;
    }

pub below : (n m : ℕ) → nat_lt n m ≡ true → n < m
below n m h = grind (arith, nat_tests)

module _ (chart : Chart) (named : is_named chart ≡ true) where
  pub var_named : (x : VarId) → nat_lt x.0 (length chart.vars) ≡ true → is_name (var_name chart x) ≡ true
  var_named x h = named_at (λ (y : Variable). y.name) chart.vars x.0 (has_names chart named).vars (below x.0 (length chart.vars) h)

  pub state_named : (s : StateId) → nat_lt s.0 (length chart.states) ≡ true → is_name (state_name chart s) ≡ true
  state_named s h = named_at (λ (y : State). y.name) chart.states s.0 (has_names chart named).states (below s.0 (length chart.states) h)

  pub act_named : (a : ActId) → nat_lt a.0 (length chart.acts) ≡ true → is_name (act_name chart a) ≡ true
  act_named a h = named_at (λ (y : Activity). y.name) chart.acts a.0 (has_names chart named).acts (below a.0 (length chart.acts) h)

  pub unit_named : (u : UnitId) → nat_lt u.0 (length chart.units) ≡ true → is_name (unit_name chart u) ≡ true
  unit_named u h = named_at (λ (y : List ℕ). y) chart.units u.0 (has_names chart named).units (below u.0 (length chart.units) h)

  pub event_named : (x : EventId) → nat_lt x.0 (length chart.events) ≡ true → is_name (event_name chart x) ≡ true
  event_named x h = named_at (λ (y : Event). y.name) chart.events x.0 (has_names chart named).events (below x.0 (length chart.events) h)
