-- All declarations, one kind after the other.
use Rattle.std.proofs.Common.{◌≡◌, ℕ, zero, suc, ◌+◌, ◌-◌, ◌≤◌, true, nat_lt, List, [], ◌∷◌, ◌++◌, length, flat_map, Option, Some, None, Ok, refl, sym, ◌∙◌, ap, ap₂, subst, arith, append-nil, append_assoc, length-append}
use Rattle.std.specs.List.{list_all}
use lib.Chars.{codes}
use Rattle.wf_model.specs.declared.ids.UnitId.{UnitId}
use Rattle.wf_model.specs.declared.ids.VarId.{VarId}
use Rattle.wf_model.specs.declared.chart.Event.{Event}
use Rattle.wf_model.specs.declared.chart.Variable.{Variable}
use Rattle.wf_model.specs.declared.chart.Activity.{Activity}
use Rattle.wf_model.specs.declared.chart.Chart.{Chart}
use Rattle.wf_model.specs.Names.{is_name}
use Rattle.wf_model.specs.Accepted.{IsAccepted, is_named, is_unit, all_of, is_known_activity}
use Rattle.wf_model.proofs.Bools.{and_both}
use Rattle.wf_cursor.specs.declared.names.Declared.{Declared}
use Rattle.wf_cursor.specs.declared.names.Declared.TheVariants as declared_as_a
use Rattle.wf_cursor.specs.declared.piece.Piece.TheVariants as pieces
use Rattle.wf_cursor.specs.Input.{Input}
use Rattle.wf_words.specs.Names.{unit_name, var_name}
use Rattle.wf_text.specs.Declarations as decl
use Rattle.wf_grammar.specs.Lexemes.{Lexeme}
use Rattle.wf_grammar.specs.Phrases.{Names}
use Rattle.wf_grammar.specs.Laws.{first_piece}
use Rattle.wf_readback.proofs.Spans.{Span, lexemes_of}
use Rattle.wf_readback.proofs.ChartSpans as spans
use Rattle.wf_readback.specs.Held.{is_short_value}
use Rattle.wf_readback.proofs.ChartSpans.{is_short_transition, is_short}
use Rattle.wf_readback.proofs.ChartNames.{has_names, name_piece, name_is_short, below}
use Rattle.wf_readback.proofs.Known.{is_named_of, known, all_behind}
use Rattle.wf_readback.proofs.ExprSpelled.{lexemes-append}
use Rattle.wf_readback.proofs.Declares.{declared_from, unit_of, event_of, var_of, act_of, fault_alone, names_before_states}
use Rattle.wf_readback.proofs.Reading.{DeclarationsAreRead, declaration_lines, with_fault_alone}
use Rattle.wf_readback.proofs.New.{AreNewIn, each_found, found_before}
use Rattle.wf_readback.proofs.Named.{HasFault, has_fault, events_behind, after_units, after_events, after_vars, Orders, orders, at_zero}
use Rattle.wf_readback.proofs.Steps.{Made, made_of, At, Answers, piece_at, left_at}
use Rattle.wf_readback.proofs.Transitions.{regrouped, two_parts, many_lexemes}
use Rattle.wf_readback.proofs.Declarations.{IsNewName, HasUnits, HasVars, IsKnownPlace, AreKnownVars, after_unit, after_event, after_var, after_act, unit_declared, event_declared, var_declared, act_declared}

-- so many turns further on
record Loops (n : ℕ) (i : Input) (turns : ℕ) (ws : List Lexeme) (m : Made) : Type 0 where
  behind : Input
  is : decl.declarations_from n i ≡ decl.declarations_from (n - turns) behind
  at : At behind ws m

one_turn : (n : ℕ) (i : Input) (ws : List Lexeme) (m : Made) (a : Answers (decl.declaration i) true ws m) → decl.declarations_from (suc n) i ≡ decl.declarations_from n a.behind
unfolding decl.declarations_from
one_turn n i ws m a = rw a.is refl

-- ---- the declarations of one kind

abbrev all_after : {A : Type 0} → (Made → A → Made) → Made → List A → Made
all_after after m [] = m
all_after after m (x ∷ xs) = all_after after (after m x) xs

abbrev AreFit : {A : Type 0} → (Made → A → Type 0) → Made → List A → Type 0
AreFit IsFit m [] = Unit {0}
AreFit IsFit m (x ∷ xs) = IsFit m x × AreFit IsFit m xs

module _ {A : Type 0} (name : A → List ℕ) (what : ℕ → Declared) (lines : A → List Span) (count : Made → ℕ) (after : Made → A → Made) (IsFit : Made → A → Type 0)
    (after_names : (m : Made) (x : A) → (after m x).names ≡ m.names ++ (name x, what (count m)) ∷ [])
    (after_count : (m : Made) (x : A) → count (after m x) ≡ count m + 1)
    (stays_fit : (m : Made) (x y : A) → IsFit m y → IsFit (after m x) y)
    (step : (x : A) (i : Input) (ws : List Lexeme) (m : Made) → IsNewName m (name x) → IsFit m x → At i (lexemes_of (lines x) ++ ws) m → Answers (decl.declaration i) true ws (after m x)) where
  stay_fit : (m : Made) (x : A) (xs : List A) → AreFit IsFit m xs → AreFit IsFit (after m x) xs
  stay_fit m x [] h = tt
  stay_fit m x (y ∷ ys) h = (stays_fit m x y h.0, stay_fit m x ys h.1)

  loop : (xs : List A) (n : ℕ) (i : Input) (ws : List Lexeme) (m : Made) → length xs ≤ n → list_all (λ x. is_name (name x)) xs ≡ true → AreNewIn name what m.names (count m) xs → AreFit IsFit m xs
      → At i (lexemes_of (flat_map lines xs) ++ ws) m → Loops n i (length xs) ws (all_after after m xs)
  loop [] n i ws m few named new fit at = let same : n ≡ n - 0 = omega arith in record { behind = i; is = ap (λ (k : ℕ). decl.declarations_from k i) same; at = at }
  loop (x ∷ xs) zero i ws m few named new fit at = absurd (omega arith)
  loop (x ∷ xs) (suc n) i ws m few named new fit at =
      let names = and_both (is_name (name x)) (list_all (λ y. is_name (name y)) xs) named in
      let is_new : IsNewName m (name x) = record { piece = name_piece (name x) names.0; short = name_is_short (name x) names.0; new = new.0 } in
      let rest = lexemes_of (flat_map lines xs) ++ ws in
      let a = step x i rest m is_new fit.0 (regrouped i _ _ m (two_parts (lines x) (flat_map lines xs) ws) at) in
      let still : AreNewIn name what (after m x).names (count (after m x)) xs =
      subst (λ (k : ℕ). AreNewIn name what (after m x).names k xs) (sym (after_count m x)) (subst (λ (ns : Names). AreNewIn name what ns (count m + 1) xs) (sym (after_names m x)) new.1) in
      let b = loop xs n a.behind ws (after m x) (omega arith) names.1 still (stay_fit m x xs fit.1) a.at in
      let same : n - length xs ≡ suc n - length (x ∷ xs) = omega arith in
      record {
        behind = b.behind;
        is = one_turn n i rest (after m x) a ∙ b.is ∙ ap (λ (k : ℕ). decl.declarations_from k b.behind) same;
        at = b.at;
      }

-- ---- what was declared in the end

units_after : (xs : List (List ℕ)) (m : Made) (k : ℕ) → length m.units ≡ k → all_after after_unit m xs ≡ record m { units = m.units ++ xs; names = m.names ++ declared_from (λ (x : List ℕ). x) unit_of k xs }
units_after [] m k size = ap₂ (λ (ys : List (List ℕ)) (ns : Names). record m { units = ys; names = ns }) (sym (append-nil m.units)) (sym (append-nil m.names))
units_after (x ∷ xs) m k size =
    let more = declared_from (λ (x : List ℕ). x) unit_of (k + 1) xs in
    let names : m.names ++ (x, unit_of (length m.units)) ∷ [] ++ more ≡ m.names ++ (x, unit_of k) ∷ more =
    ap (λ (j : ℕ). m.names ++ (x, unit_of j) ∷ [] ++ more) size ∙ append_assoc m.names ((x, unit_of k) ∷ []) more in
    units_after xs (after_unit m x) (k + 1) (omega (arith, size, length-append m.units (x ∷ [])))
    ∙ ap₂ (λ (ys : List (List ℕ)) (ns : Names). record m { units = ys; names = ns }) (append_assoc m.units (x ∷ []) xs) names

events_after : (chart : Chart) (named : is_named chart ≡ true) → (xs : List (Event)) (m : Made) (k : ℕ) → length m.events ≡ k → all_after (after_event chart named) m xs ≡ record m { events = m.events ++ xs; names = m.names ++ declared_from (λ (x : Event). x.name) event_of k xs }
events_after chart named [] m k size = ap₂ (λ (ys : List (Event)) (ns : Names). record m { events = ys; names = ns }) (sym (append-nil m.events)) (sym (append-nil m.names))
events_after chart named (x ∷ xs) m k size =
    let more = declared_from (λ (x : Event). x.name) event_of (k + 1) xs in
    let names : m.names ++ (x.name, event_of (length m.events)) ∷ [] ++ more ≡ m.names ++ (x.name, event_of k) ∷ more =
    ap (λ (j : ℕ). m.names ++ (x.name, event_of j) ∷ [] ++ more) size ∙ append_assoc m.names ((x.name, event_of k) ∷ []) more in
    events_after chart named xs (after_event chart named m x) (k + 1) (omega (arith, size, length-append m.events (x ∷ [])))
    ∙ ap₂ (λ (ys : List (Event)) (ns : Names). record m { events = ys; names = ns }) (append_assoc m.events (x ∷ []) xs) names

vars_after : (chart : Chart) (named : is_named chart ≡ true) → (xs : List (Variable)) (m : Made) (k : ℕ) → length m.vars ≡ k → all_after (after_var chart named) m xs ≡ record m { vars = m.vars ++ xs; names = m.names ++ declared_from (λ (x : Variable). x.name) var_of k xs }
vars_after chart named [] m k size = ap₂ (λ (ys : List (Variable)) (ns : Names). record m { vars = ys; names = ns }) (sym (append-nil m.vars)) (sym (append-nil m.names))
vars_after chart named (x ∷ xs) m k size =
    let more = declared_from (λ (x : Variable). x.name) var_of (k + 1) xs in
    let names : m.names ++ (x.name, var_of (length m.vars)) ∷ [] ++ more ≡ m.names ++ (x.name, var_of k) ∷ more =
    ap (λ (j : ℕ). m.names ++ (x.name, var_of j) ∷ [] ++ more) size ∙ append_assoc m.names ((x.name, var_of k) ∷ []) more in
    vars_after chart named xs (after_var chart named m x) (k + 1) (omega (arith, size, length-append m.vars (x ∷ [])))
    ∙ ap₂ (λ (ys : List (Variable)) (ns : Names). record m { vars = ys; names = ns }) (append_assoc m.vars (x ∷ []) xs) names

acts_after : (chart : Chart) (named : is_named chart ≡ true) → (xs : List (Activity)) (m : Made) (k : ℕ) → length m.acts ≡ k → all_after (after_act chart named) m xs ≡ record m { acts = m.acts ++ xs; names = m.names ++ declared_from (λ (x : Activity). x.name) act_of k xs }
acts_after chart named [] m k size = ap₂ (λ (ys : List (Activity)) (ns : Names). record m { acts = ys; names = ns }) (sym (append-nil m.acts)) (sym (append-nil m.names))
acts_after chart named (x ∷ xs) m k size =
    let more = declared_from (λ (x : Activity). x.name) act_of (k + 1) xs in
    let names : m.names ++ (x.name, act_of (length m.acts)) ∷ [] ++ more ≡ m.names ++ (x.name, act_of k) ∷ more =
    ap (λ (j : ℕ). m.names ++ (x.name, act_of j) ∷ [] ++ more) size ∙ append_assoc m.names ((x.name, act_of k) ∷ []) more in
    acts_after chart named xs (after_act chart named m x) (k + 1) (omega (arith, size, length-append m.acts (x ∷ [])))
    ∙ ap₂ (λ (ys : List (Activity)) (ns : Names). record m { acts = ys; names = ns }) (append_assoc m.acts (x ∷ []) xs) names

-- ---- the whole

pub remade : (i : Input) (ws : List Lexeme) (m n : Made) → m ≡ n → At i ws m → At i ws n
remade i ws m n same at = record { left = at.left; made = at.made ∙ same }

-- no declaration begins with the root
root_next : (n : ℕ) (i : Input) (ws : List Lexeme) (m : Made) → At i ws m → first_piece ws ≡ Some pieces.Or → decl.declarations_from n i ≡ Ok (tt, i)
unfolding decl.declarations_from decl.declaration
root_next zero i ws m at next = refl
root_next (suc n) i ws m at next = rw (piece_at i ws m at ∙ next) refl

some_unit : (x : List ℕ) → 1 ≤ length (lexemes_of (spans.unit_line x))
some_unit x = omega arith

module _ (chart : Chart) (named : is_named chart ≡ true) where
  abbrev IsFitEvent : Made → Event → Type 0
  IsFitEvent m x = HasUnits chart named m.names × IsKnownPlace chart named x.unit

  abbrev IsFitAct : Made → Activity → Type 0
  IsFitAct m x = HasUnits chart named m.names × HasVars chart named m.names × (nat_lt x.unit.0 (length chart.units) ≡ true) × AreKnownVars chart named x.outputs

  some_event : (x : Event) → 1 ≤ length (lexemes_of (spans.event_line chart x))
  some_event x = omega (arith, ap length (lexemes-append (spans.first (codes "event") ++ spans.one x.name ++ spans.place_of chart x.unit) spans.line_end), length-append (lexemes_of (spans.first (codes "event") ++ spans.one x.name ++ spans.place_of chart x.unit)) (lexemes_of spans.line_end))

  some_var : (x : Variable) → 1 ≤ length (lexemes_of (spans.var_line x))
  some_var x = omega arith

  some_act : (x : Activity) → 1 ≤ length (lexemes_of (spans.activity_line chart x))
  some_act x =
      let front = spans.first (codes "activity") ++ spans.one x.name ++ spans.place chart x.unit ++ spans.listed (spans.between (codes "gives")) (λ y. spans.one (var_name chart y)) x.outputs in
      omega (arith, ap length (lexemes-append front spans.line_end), length-append (lexemes_of front) (lexemes_of spans.line_end))

  has_units_after : (m : Made) (name : List ℕ) (what : Declared) → HasUnits chart named m.names → HasUnits chart named (m.names ++ (name, what) ∷ [])
  has_units_after m name what has u h = found_before m.names ((name, what) ∷ []) (unit_name chart u) (declared_as_a.Unit u) (has u h)

  has_vars_after : (m : Made) (name : List ℕ) (what : Declared) → HasVars chart named m.names → HasVars chart named (m.names ++ (name, what) ∷ [])
  has_vars_after m name what has x h = found_before m.names ((name, what) ∷ []) (var_name chart x) (declared_as_a.Var x) (has x h)

  known_place : (u : Option UnitId) → all_of (is_unit chart) u ≡ true → IsKnownPlace chart named u
  known_place None h = tt
  known_place (Some u) h = h

  known_vars : (xs : List VarId) → list_all (λ x. nat_lt x.0 (length chart.vars)) xs ≡ true → AreKnownVars chart named xs
  known_vars [] h = tt
  known_vars (x ∷ xs) h = let p = and_both (nat_lt x.0 (length chart.vars)) (list_all (λ y. nat_lt y.0 (length chart.vars)) xs) h in (p.0, known_vars xs p.1)

  units_fit : (m : Made) (xs : List (List ℕ)) → AreFit (λ _ _. Unit {0}) m xs
  units_fit m [] = tt
  units_fit m (x ∷ xs) = (tt, units_fit m xs)

  events_fit : (m : Made) (xs : List Event) → HasUnits chart named m.names → list_all (λ x. all_of (is_unit chart) x.unit) xs ≡ true → AreFit IsFitEvent m xs
  events_fit m [] has h = tt
  events_fit m (x ∷ xs) has h =
      let p = and_both (all_of (is_unit chart) x.unit) (list_all (λ y. all_of (is_unit chart) y.unit) xs) h in
      ((has, known_place x.unit p.0), events_fit m xs has p.1)

  vars_fit : (m : Made) (xs : List Variable) → list_all (λ x. is_short_value x.first) xs ≡ true → AreFit (λ _ (x : Variable). is_short_value x.first ≡ true) m xs
  vars_fit m [] h = tt
  vars_fit m (x ∷ xs) h = let p = and_both (is_short_value x.first) (list_all (λ y. is_short_value y.first) xs) h in (p.0, vars_fit m xs p.1)

  acts_fit : (m : Made) (xs : List Activity) → HasUnits chart named m.names → HasVars chart named m.names → list_all (is_known_activity chart) xs ≡ true → AreFit IsFitAct m xs
  acts_fit m [] has vars h = tt
  acts_fit m (x ∷ xs) has vars h =
      let p = and_both (is_known_activity chart x) (list_all (is_known_activity chart) xs) h in
      let q = and_both (is_unit chart x.unit) (list_all (λ y. nat_lt y.0 (length chart.vars)) x.outputs) p.0 in
      ((has, vars, q.0, known_vars x.outputs q.1), acts_fit m xs has vars p.1)

  units_loop : (xs : List (List ℕ)) (n : ℕ) (i : Input) (ws : List Lexeme) (m : Made) → length xs ≤ n → list_all (λ x. is_name x) xs ≡ true → AreNewIn (λ (x : List ℕ). x) unit_of m.names (length m.units) xs
      → At i (lexemes_of (flat_map spans.unit_line xs) ++ ws) m → Loops n i (length xs) ws (all_after after_unit m xs)
  units_loop xs n i ws m few names new at =
      loop (λ (x : List ℕ). x) unit_of spans.unit_line (λ k. length k.units) after_unit (λ _ _. Unit {0}) (λ k x. refl) (λ k x. omega (arith, length-append k.units (x ∷ []))) (λ k x y h. h)
      (λ x j vs k is_new fit here. unit_declared chart named x j vs k is_new here) xs n i ws m few names new (units_fit m xs) at

  events_loop : (xs : List Event) (n : ℕ) (i : Input) (ws : List Lexeme) (m : Made) → length xs ≤ n → list_all (λ x. is_name x.name) xs ≡ true → AreNewIn (λ (x : Event). x.name) event_of m.names (length m.events) xs
      → AreFit IsFitEvent m xs → At i (lexemes_of (flat_map (spans.event_line chart) xs) ++ ws) m → Loops n i (length xs) ws (all_after (after_event chart named) m xs)
  events_loop xs n i ws m few names new fit at =
      loop (λ (x : Event). x.name) event_of (spans.event_line chart) (λ k. length k.events) (after_event chart named) IsFitEvent (λ k x. refl) (λ k x. omega (arith, length-append k.events (x ∷ [])))
      (λ k x y h. (has_units_after k x.name (event_of (length k.events)) h.0, h.1))
      (λ x j vs k is_new fit here. event_declared chart named x j vs k is_new fit.0 fit.1 here) xs n i ws m few names new fit at

  vars_loop : (xs : List Variable) (n : ℕ) (i : Input) (ws : List Lexeme) (m : Made) → length xs ≤ n → list_all (λ x. is_name x.name) xs ≡ true → AreNewIn (λ (x : Variable). x.name) var_of m.names (length m.vars) xs
      → AreFit (λ _ (x : Variable). is_short_value x.first ≡ true) m xs → At i (lexemes_of (flat_map spans.var_line xs) ++ ws) m → Loops n i (length xs) ws (all_after (after_var chart named) m xs)
  vars_loop xs n i ws m few names new fit at =
      loop (λ (x : Variable). x.name) var_of spans.var_line (λ k. length k.vars) (after_var chart named) (λ _ (x : Variable). is_short_value x.first ≡ true) (λ k x. refl) (λ k x. omega (arith, length-append k.vars (x ∷ [])))
      (λ k x y h. h)
      (λ x j vs k is_new fit here. var_declared chart named x j vs k is_new fit here) xs n i ws m few names new fit at

  acts_loop : (xs : List Activity) (n : ℕ) (i : Input) (ws : List Lexeme) (m : Made) → length xs ≤ n → list_all (λ x. is_name x.name) xs ≡ true → AreNewIn (λ (x : Activity). x.name) act_of m.names (length m.acts) xs
      → AreFit IsFitAct m xs → At i (lexemes_of (flat_map (spans.activity_line chart) xs) ++ ws) m → Loops n i (length xs) ws (all_after (after_act chart named) m xs)
  acts_loop xs n i ws m few names new fit at =
      loop (λ (x : Activity). x.name) act_of (spans.activity_line chart) (λ k. length k.acts) (after_act chart named) IsFitAct (λ k x. refl) (λ k x. omega (arith, length-append k.acts (x ∷ [])))
      (λ k x y h. (has_units_after k x.name (act_of (length k.acts)) h.0, has_vars_after k x.name (act_of (length k.acts)) h.1, h.2, h.3))
      (λ x j vs k is_new fit here. act_declared chart named x j vs k is_new fit.0 fit.1 fit.2 fit.3 here) xs n i ws m few names new fit at

  -- what is declared, kind by kind
  units_declared : Orders chart → HasUnits chart named (after_units chart)
  units_declared o u h = each_found (λ (x : List ℕ). x) unit_of fault_alone 0 chart.units u.0 o.units (below u.0 (length chart.units) h) ∙ at_zero unit_of u.0

  vars_declared : Orders chart → HasVars chart named (after_vars chart)
  vars_declared o x h = each_found (λ (y : Variable). y.name) var_of (after_events chart) 0 chart.vars x.0 o.vars (below x.0 (length chart.vars) h) ∙ at_zero var_of x.0

  pub units_still : Orders chart → HasUnits chart named (after_vars chart)
  units_still o u h =
      found_before (after_events chart) (declared_from (λ x. x.name) var_of 0 chart.vars) (unit_name chart u) (declared_as_a.Unit u)
      (found_before (after_units chart) (declared_from (λ x. x.name) event_of 1 (events_behind chart)) (unit_name chart u) (declared_as_a.Unit u) (units_declared o u h))

pub fault_is : (chart : Chart) → HasFault chart → record { name = codes "fault"; unit = None } ∷ events_behind chart ≡ chart.events
fault_is chart f = sym (f.events ∙ ap₂ (λ (n : List ℕ) (u : Option UnitId). record { name = n; unit = u } ∷ events_behind chart) f.name f.unit)

short_vars : (chart : Chart) → is_short chart ≡ true → list_all (λ x. is_short_value x.first) chart.vars ≡ true
unfolding is_short
short_vars chart h = (and_both (list_all (λ x. is_short_value x.first) chart.vars) (list_all is_short_transition chart.transitions) h).0

-- nothing but `fault`
abbrev pub start : Input → Made
start i = record { text = i.text; units = []; events = record { name = codes "fault"; unit = None } ∷ []; vars = []; acts = []; states = i.states; names = fault_alone }

module _ (chart : Chart) (i : Input) where
  abbrev pub with_units : Made
  with_units = record (start i) { units = chart.units; names = after_units chart }

  abbrev pub with_events : Made
  with_events = record with_units { events = record { name = codes "fault"; unit = None } ∷ events_behind chart; names = after_events chart }

  abbrev pub with_vars : Made
  with_vars = record with_events { vars = chart.vars; names = after_vars chart }

  abbrev pub with_acts : Made
  with_acts = record with_vars { acts = chart.acts; names = names_before_states chart }

  starts : i ≡ with_fault_alone i → made_of i ≡ start i
  starts e = ap (λ (k : Input). let m : Made = record { text = i.text; units = k.units; events = k.events; vars = k.vars; acts = k.acts; states = i.states; names = k.names } in m) e

  pub record Read (more : List Lexeme) : Type 0 where
    pub behind : Input
    pub is : decl.declarations i ≡ Ok (tt, behind)
    pub at : At behind more with_acts

  pub read_all : IsAccepted chart → is_short chart ≡ true → (more : List Lexeme) → first_piece more ≡ Some pieces.Or → At i (lexemes_of (declaration_lines chart) ++ more) (start i) → Read more
  unfolding decl.declarations
  read_all ok short more next at =
      let named = is_named_of chart ok in
      let o = orders chart ok in
      let names = has_names chart named in
      let k = known chart ok in
      let u = flat_map spans.unit_line chart.units in
      let e = flat_map (spans.event_line chart) (events_behind chart) in
      let v = flat_map spans.var_line chart.vars in
      let a = flat_map (spans.activity_line chart) chart.acts in
      let from_acts = lexemes_of a ++ more in
      let from_vars = lexemes_of v ++ from_acts in
      let from_events = lexemes_of e ++ from_vars in
      let begins = regrouped i (lexemes_of (declaration_lines chart) ++ more) (lexemes_of u ++ from_events) (start i) (two_parts (u ++ e ++ v) a more ∙ two_parts (u ++ e) v from_acts ∙ two_parts u e from_vars) at in
      let n = length i.left in
      let size : n ≡ length (lexemes_of u) + (length (lexemes_of e) + (length (lexemes_of v) + (length (lexemes_of a) + length more))) =
      left_at i (lexemes_of u ++ from_events) (start i) begins ∙ omega (arith, length-append (lexemes_of u) from_events, length-append (lexemes_of e) from_vars, length-append (lexemes_of v) from_acts, length-append (lexemes_of a) more) in
      let u_few = many_lexemes spans.unit_line some_unit chart.units in
      let e_few = many_lexemes (spans.event_line chart) (some_event chart named) (events_behind chart) in
      let v_few = many_lexemes spans.var_line (some_var chart named) chart.vars in
      let a_few = many_lexemes (spans.activity_line chart) (some_act chart named) chart.acts in
      let n1 = n - length chart.units in
      let n2 = n1 - length (events_behind chart) in
      let n3 = n2 - length chart.vars in
      let first = units_loop chart named chart.units n i from_events (start i) (omega (arith, size, u_few)) names.units o.units begins in
      let second = events_loop chart named (events_behind chart) n1 first.behind from_vars with_units (omega (arith, size, u_few, e_few))
      (all_behind (λ x. is_name x.name) chart.events names.events) o.events
      (events_fit chart named with_units (events_behind chart) (units_declared chart named o) (all_behind (λ x. all_of (is_unit chart) x.unit) chart.events k.events))
      (remade first.behind from_events _ with_units (units_after chart.units (start i) 0 refl) first.at) in
      let third = vars_loop chart named chart.vars n2 second.behind from_acts with_events (omega (arith, size, u_few, e_few, v_few)) names.vars o.vars (vars_fit chart named with_events chart.vars (short_vars chart short))
      (remade second.behind from_vars _ with_events (events_after chart named (events_behind chart) with_units 1 refl) second.at) in
      let fourth = acts_loop chart named chart.acts n3 third.behind more with_vars (omega (arith, size, u_few, e_few, v_few, a_few)) names.acts o.acts
      (acts_fit chart named with_vars chart.acts (units_still chart named o) (vars_declared chart named o) k.acts)
      (remade third.behind from_acts _ with_vars (vars_after chart named chart.vars with_events 0 refl) third.at) in
      let end = remade fourth.behind more _ with_acts (acts_after chart named chart.acts with_vars 0 refl) fourth.at in
      record { behind = fourth.behind; is = first.is ∙ second.is ∙ third.is ∙ fourth.is ∙ root_next (n3 - length chart.acts) fourth.behind more with_acts end next; at = end }

  ended : (j : Input) (more : List Lexeme) → HasFault chart → At j more with_acts
      → j ≡ record i { left = j.left; at = j.at; units = chart.units; events = chart.events; vars = chart.vars; acts = chart.acts; names = names_before_states chart; nodes = j.nodes }
  ended j more f at =
      ap (λ (m : Made). let k : Input = record { text = m.text; left = j.left; at = j.at; units = m.units; events = m.events; vars = m.vars; acts = m.acts; states = m.states; names = m.names; nodes = j.nodes } in k) at.made
      ∙ ap (λ (es : List Event). record i { left = j.left; at = j.at; units = chart.units; events = es; vars = chart.vars; acts = chart.acts; names = names_before_states chart; nodes = j.nodes }) (fault_is chart f)

pub declarations_are_read : DeclarationsAreRead
declarations_are_read chart i more ok short fresh left next =
    let r = read_all chart i ok short more next (record { left = left; made = starts chart i fresh }) in
    (r.behind, r.is, r.at.left, ended chart i r.behind more (has_fault chart ok) r.at)
