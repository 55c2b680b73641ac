-- The states of a chart are read back, where they are numbered as they stand in the text.
use Rattle.std.proofs.Common.{◌≡◌, ℕ, zero, suc, ◌+◌, ◌<◌, ◌≤◌, ◌==◌, Bool, true, false, List, [], ◌∷◌, ◌++◌, length, take, flat_map, slice_get, Option, Some, None, Ok, refl, sym, ◌∙◌, ap, ap₂, subst, arith, inl, inr, append-nil, append_assoc, length-append}
use Rattle.std.specs.List.{list_all}
use Rattle.std.specs.Option.{option_map, option_and_then}
use Rattle.std.proofs.lemmas.Bool.Decides.{nat_tests}
use lib.Chars.{codes}
use Rattle.wf_model.specs.Limits.{max_depth}
use Rattle.wf_model.specs.declared.ids.StateId.{StateId}
use Rattle.wf_model.specs.declared.chart.Kind.{Kind}
use Rattle.wf_model.specs.declared.chart.Kind.TheVariants as kinds
use Rattle.wf_model.specs.declared.chart.State.{State}
use Rattle.wf_model.specs.declared.chart.Chart.{Chart}
use Rattle.wf_model.specs.Names.{is_name}
use Rattle.wf_model.specs.Tree.{children, parent, parent_of}
use Rattle.wf_model.specs.Accepted.{IsAccepted, is_unit}
use Rattle.wf_model.proofs.Bools.{and_both, Mem}
use Rattle.wf_semantics.proofs.Children.{mem_child_parent, parent_inside, item_at, lt_or_ge}
use Rattle.wf_semantics.proofs.Facts.{IsChart, chart_of}
use Rattle.wf_cursor.specs.declared.names.Declared.TheVariants as declared_as_a
use Rattle.wf_cursor.specs.declared.piece.Piece.{Piece}
use Rattle.wf_cursor.specs.declared.piece.Piece.TheVariants as pieces
use Rattle.wf_cursor.specs.Pieces.{piece_of, same_piece, word_piece, state_word, sign_piece}
use Rattle.wf_cursor.specs.Names.{declared_as}
use Rattle.wf_cursor.specs.Input.{Input, Parser, is_piece, next, next_state, with_state}
use Rattle.wf_words.specs.Names.{unit_name}
use Rattle.wf_print.specs.States.{indent}
use Rattle.wf_print.specs.Nested.{depth}
use Rattle.std.proofs.lemmas.Option.{slice_get_past}
use Rattle.wf_model.specs.Tree.{ancestors, ancestors_by}
use Rattle.wf_semantics.proofs.Ancestors.{enough}
use Rattle.wf_semantics.proofs.Charts.{falls}
use Rattle.wf_text.specs.States as text
use Rattle.wf_grammar.specs.Lexemes.{Lexeme}
use Rattle.wf_grammar.specs.Phrases.{Is}
use Rattle.wf_grammar.specs.Laws.{first_piece}
use Rattle.wf_readback.proofs.Spans.{Span, lexemes_of}
use Rattle.wf_readback.proofs.ChartSpans as spans
use Rattle.wf_readback.proofs.ChartSpans.{one, between, line_end, kind_spans, state_spans}
use Rattle.wf_readback.proofs.ChartNames.{has_names, name_piece, name_is_short}
use Rattle.wf_readback.proofs.Known.{is_named_of, known}
use Rattle.wf_readback.proofs.ExprSpelled.{lexemes-append}
use Rattle.wf_readback.proofs.Declares.{declared_from, state_of, names_before_states}
use Rattle.wf_readback.proofs.Order.{states_from, IsRun}
use Rattle.wf_readback.proofs.New.{AreNewIn, found_before}
use Rattle.wf_readback.proofs.Steps.{Made, At, Answers, expect_step, eat_step, eat_none, next_at, piece_at, left_at, unit_step}
use Rattle.wf_readback.proofs.Pieces.{word_lexeme, sign_lexeme, semicolon_is}
use Rattle.wf_readback.proofs.Transitions.{regrouped, two_parts}
use Rattle.wf_readback.proofs.Declaring.{with_new}
use Rattle.wf_readback.proofs.Declarations.{IsNewName, HasUnits, naming, at_is, unit_name_is}

-- ---- pieces

abbrev pub kind_bytes : Kind → List ℕ
kind_bytes kinds.Basic = codes "basic"
kind_bytes kinds.Or = codes "or"
kind_bytes kinds.And = codes "and"

abbrev pub kind_piece : Kind → Piece
kind_piece kinds.Basic = pieces.Basic
kind_piece kinds.Or = pieces.Or
kind_piece kinds.And = pieces.And

pub kind_is : (k : Kind) → Is (kind_piece k) (word_lexeme (kind_bytes k))
unfolding piece_of word_piece state_word
kind_is kinds.Basic = refl
kind_is kinds.Or = refl
kind_is kinds.And = refl

pub kind_found : (k : Kind) → text.kind_of (Some (kind_piece k)) ≡ Some k
kind_found kinds.Basic = refl
kind_found kinds.Or = refl
kind_found kinds.And = refl

open_is : Is pieces.OpenBrace (sign_lexeme (codes "{"))
unfolding piece_of sign_piece
open_is = refl

close_is : Is pieces.CloseBrace (sign_lexeme (codes "}"))
unfolding piece_of sign_piece
close_is = refl

no_close : (k : Kind) (ws : List Lexeme) → is_piece pieces.CloseBrace (first_piece (word_lexeme (kind_bytes k) ∷ ws)) ≡ false
unfolding piece_of word_piece state_word same_piece
no_close kinds.Basic ws = refl
no_close kinds.Or ws = refl
no_close kinds.And ws = refl

-- ---- lists up to a place

take_suc : {A : Type 0} (xs : List A) (k : ℕ) (x : A) → slice_get xs k ≡ Some x → take (suc k) xs ≡ take k xs ++ x ∷ []
take_suc [] k x is = cc
take_suc (y ∷ xs) zero x is = let same : y ≡ x = cc in ap (λ z. z ∷ []) same
take_suc (y ∷ xs) (suc k) x is = ap (λ l. y ∷ l) (take_suc xs k x is)

taken : {A : Type 0} (xs : List A) (k : ℕ) (x : A) → slice_get xs k ≡ Some x → length (take k xs) ≡ k
taken [] k x is = cc
taken (y ∷ xs) zero x is = refl
taken (y ∷ xs) (suc k) x is = omega (arith, taken xs k x is)

pub all_at : {A : Type 0} (p : A → Bool) (xs : List A) (k : ℕ) (x : A) → list_all p xs ≡ true → slice_get xs k ≡ Some x → p x ≡ true
all_at p [] k x h is = cc
all_at p (y ∷ xs) zero x h is = let same : y ≡ x = cc in ap p (sym same) ∙ (and_both (p y) (list_all p xs) h).0
all_at p (y ∷ xs) (suc k) x h is = all_at p xs k x (and_both (p y) (list_all p xs) h).1 is

abbrev state_name_of : State → List ℕ
state_name_of x = x.name

declared_suc : (j : ℕ) (xs : List State) (k : ℕ) (x : State) → slice_get xs k ≡ Some x
    → declared_from (λ y. y.name) state_of j (take (suc k) xs) ≡ declared_from (λ y. y.name) state_of j (take k xs) ++ (x.name, state_of (j + k)) ∷ []
declared_suc j [] k x is = cc
declared_suc j (y ∷ xs) zero x is =
    let same : y ≡ x = cc in
    let place : j ≡ j + 0 = omega arith in
    ap₂ (λ (z : State) (n : ℕ). (z.name, state_of n) ∷ []) same place
declared_suc j (y ∷ xs) (suc k) x is =
    let place : j + 1 + k ≡ j + suc k = omega arith in
    ap (λ l. (y.name, state_of j) ∷ l) (declared_suc (j + 1) xs k x is ∙ ap (λ (n : ℕ). declared_from (λ z. z.name) state_of (j + 1) (take k xs) ++ (x.name, state_of n) ∷ []) place)

new_here : (names : List (List ℕ × _)) (j : ℕ) (xs : List State) (k : ℕ) (x : State) → AreNewIn (λ (y : State). y.name) state_of names j xs → slice_get xs k ≡ Some x
    → declared_as (names ++ declared_from (λ y. y.name) state_of j (take k xs)) x.name ≡ None
new_here names j [] k x new is = cc
new_here names j (y ∷ xs) zero x new is =
    let same : y ≡ x = cc in
    ap₂ (λ ns (z : State). declared_as ns z.name) (append-nil names) (sym same) ∙ new.0
new_here names j (y ∷ xs) (suc k) x new is =
    ap (λ ns. declared_as ns x.name) (sym (append_assoc names ((y.name, state_of j) ∷ []) (declared_from (λ z. z.name) state_of (j + 1) (take k xs))))
    ∙ new_here (names ++ (y.name, state_of j) ∷ []) (j + 1) xs k x new.1 is

-- ---- runs of numbers

run_parts : (k : ℕ) (xs ys : List ℕ) → IsRun k (xs ++ ys) → IsRun k xs × IsRun (k + length xs) ys
run_parts k [] ys h = let same : k ≡ k + 0 = omega arith in (tt, subst (λ (n : ℕ). IsRun n ys) same h)
run_parts k (x ∷ xs) ys h =
    let p = run_parts (suc k) xs ys h.1 in
    let same : suc k + length xs ≡ k + length (x ∷ xs) = omega arith in
    ((h.0, p.0), subst (λ (n : ℕ). IsRun n ys) same p.1)

-- ---- depths

pub get_within : (xs : List State) (s : ℕ) (state : State) → slice_get xs s ≡ Some state → s < length xs
get_within xs s state is = elim (lt_or_ge s (length xs)) [
  | inl within ↦ within
  | inr past ↦ let none = slice_get_past xs s past in cc
]

-- a child lies one level deeper
pub depth_child : (chart : Chart) → IsChart chart → (k s : ℕ) → parent chart k ≡ Some s → depth chart k ≡ depth chart s + 1
unfolding ancestors_by
depth_child chart ok zero s up = absurd (omega (arith, falls chart ok 0 s up))
depth_child chart ok (suc k) s up =
    let low : s < suc k = falls chart ok (suc k) s up in
    let same : ancestors_by (parent chart) k s ≡ ancestors chart s = enough (parent chart) (falls chart ok) k s s (omega arith) (omega arith) in
    rw (up, same) (omega arith)

-- ---- a state's own line

parent_is : (p : Option StateId) (s : ℕ) → option_map (λ q. q.0) p ≡ Some s → p ≡ Some (record { 0 = s })
parent_is None s h = cc
parent_is (Some q) s h = let same : q.0 ≡ s = cc in ap (λ (n : ℕ). let id : StateId = record { 0 = n } in Some id) same

opening_is : (d : ℕ) (k : Kind) (name unit : List ℕ) → lexemes_of ((Span.gap (indent d) ∷ []) ++ (kind_spans k ++ one name ++ (between (codes "at") ++ one unit)))
    ≡ word_lexeme (kind_bytes k) ∷ word_lexeme name ∷ word_lexeme (codes "at") ∷ word_lexeme unit ∷ []
opening_is d kinds.Basic name unit = refl
opening_is d kinds.Or name unit = refl
opening_is d kinds.And name unit = refl

next_state_is : (i : Input) (ws : List Lexeme) (m : Made) → At i ws m → next_state i ≡ record { 0 = length m.states }
unfolding next_state
next_state_is i ws m at = ap (λ (k : Made). let u : StateId = record { 0 = length k.states } in u) at.made

with_state_at : (i : Input) (ws : List Lexeme) (m : Made) (x : State) → At i ws m → At (with_state x i) ws (record m { states = m.states ++ x ∷ [] })
unfolding with_state
with_state_at i ws m x at = record { left = at.left; made = ap (λ (k : Made). record k { states = k.states ++ x ∷ [] }) at.made }

kind_step : (k : Kind) (i : Input) (ws : List Lexeme) (m : Made) → At i (word_lexeme (kind_bytes k) ∷ ws) m → text.kind i ≡ Ok (k, next i)
unfolding text.kind
kind_step k i ws m at = rw (piece_at i _ m at ∙ ap Some (kind_is k)) (rw (kind_found k) refl)

module _ (chart : Chart) (accepted : IsAccepted chart) (new : AreNewIn (λ (y : State). y.name) state_of (names_before_states chart) 0 chart.states)
    (has : HasUnits chart (is_named_of chart accepted) (names_before_states chart)) (base : Made) where
  abbrev pub up_to : ℕ → Made
  up_to k = record base { states = take k chart.states; names = names_before_states chart ++ declared_from (λ y. y.name) state_of 0 (take k chart.states) }

  one_more : (s : ℕ) (state : State) → slice_get chart.states s ≡ Some state
      → record (with_new (up_to s) state.name (state_of s)) { states = (up_to s).states ++ state ∷ [] } ≡ up_to (suc s)
  one_more s state is =
      let place : 0 + s ≡ s = omega arith in
      let before = declared_from (λ (y : State). y.name) state_of 0 (take s chart.states) in
      ap₂ (λ xs ns. record base { states = xs; names = ns }) (sym (take_suc chart.states s state is))
      (append_assoc (names_before_states chart) before ((state.name, state_of s) ∷ [])
      ∙ ap (λ l. names_before_states chart ++ l) (sym (declared_suc 0 chart.states s state is ∙ ap (λ (n : ℕ). before ++ (state.name, state_of n) ∷ []) place)))

  is_new_name : (s : ℕ) (state : State) → slice_get chart.states s ≡ Some state → IsNewName (up_to s) state.name
  is_new_name s state is =
      let names = has_names chart (is_named_of chart accepted) in
      let named = all_at (λ (y : State). is_name y.name) chart.states s state names.states is in
      record { piece = name_piece state.name named; short = name_is_short state.name named; new = new_here (names_before_states chart) 0 chart.states s state new is }

  head_step : (s : ℕ) (state : State) (parent : Option StateId) (i : Input) (ws : List Lexeme) → slice_get chart.states s ≡ Some state → state.parent ≡ parent
      → At i (word_lexeme (kind_bytes state.kind) ∷ word_lexeme state.name ∷ word_lexeme (codes "at") ∷ word_lexeme (unit_name chart state.unit) ∷ ws) (up_to s)
      → Answers (text.head parent i) (record { 0 = s }) ws (up_to (suc s))
  unfolding text.head
  head_step s state parent i ws is up at =
      let m = up_to s in
      let n = with_new m state.name (state_of s) in
      let unit = word_lexeme (unit_name chart state.unit) in
      let begins = next_at i (word_lexeme (kind_bytes state.kind)) (word_lexeme state.name ∷ word_lexeme (codes "at") ∷ unit ∷ ws) m at in
      let id = next_state_is (next i) _ m begins ∙ ap (λ (k : ℕ). let u : StateId = record { 0 = k } in u) (taken chart.states s state is) in
      let b = naming (state_of s) (next i) state.name (word_lexeme (codes "at") ∷ unit ∷ ws) m (is_new_name s state is) begins in
      let c = expect_step pieces.At b.behind (word_lexeme (codes "at")) (unit ∷ ws) n b.at at_is in
      let units_known = (known chart accepted).states in
      let more_units : HasUnits chart (is_named_of chart accepted) n.names =
      λ u h. found_before m.names ((state.name, state_of s) ∷ []) (unit_name chart u) (declared_as_a.Unit u)
      (found_before (names_before_states chart) (declared_from (λ y. y.name) state_of 0 (take s chart.states)) (unit_name chart u) (declared_as_a.Unit u) (has u h)) in
      let d = unit_step c.behind unit ws n c.at state.unit (unit_name_is chart (is_named_of chart accepted) n.names more_units state.unit (all_at (λ (y : State). is_unit chart y.unit) chart.states s state units_known is)) in
      let same : record { name = state.name; kind = state.kind; parent = parent; unit = state.unit } ≡ state =
      ap (λ (p : Option StateId). let x : State = record { name = state.name; kind = state.kind; parent = p; unit = state.unit } in x) (sym up) in
      let end = with_state_at d.behind ws n state d.at in
      record {
        behind = with_state state d.behind;
        is = rw (kind_step state.kind i _ m at) (rw id (rw b.is (rw c.is (rw d.is (ap (λ (x : State). Ok (record { 0 = s }, with_state x d.behind)) same)))));
        at = record { left = end.left; made = end.made ∙ one_more s state is };
      }

  -- ---- a state, and all below it

  abbrev tree_order : ℕ → ℕ → List ℕ
  tree_order levels s = states_from chart levels s

  abbrev inner_order : ℕ → List ℕ → List ℕ
  inner_order levels ss = flat_map (states_from chart levels) ss

  abbrev inner_spans : ℕ → ℕ → List ℕ → List Span
  inner_spans levels d ss = flat_map (state_spans chart levels d) ss

  pub order_is : (levels s : ℕ) → states_from chart (suc levels) s ≡ s ∷ inner_order levels (children chart s)
  unfolding states_from
  order_is levels s = refl

  spans_are : (levels d s : ℕ) (state : State) → slice_get chart.states s ≡ Some state
      → state_spans chart (suc levels) d s ≡ spans.opening chart d state ++ spans.body d (length (children chart s) == 0) (inner_spans levels (d + 1) (children chart s))
  unfolding state_spans
  spans_are levels d s state is = rw is refl

  pub line_is : (levels d s : ℕ) (state : State) (ws : List Lexeme) → slice_get chart.states s ≡ Some state
      → lexemes_of (state_spans chart (suc levels) d s) ++ ws
      ≡ word_lexeme (kind_bytes state.kind) ∷ word_lexeme state.name ∷ word_lexeme (codes "at") ∷ word_lexeme (unit_name chart state.unit)
      ∷ (lexemes_of (spans.body d (length (children chart s) == 0) (inner_spans levels (d + 1) (children chart s))) ++ ws)
  line_is levels d s state ws is =
      let body = spans.body d (length (children chart s) == 0) (inner_spans levels (d + 1) (children chart s)) in
      ap (λ (ss : List Span). lexemes_of ss ++ ws) (spans_are levels d s state is)
      ∙ two_parts (spans.opening chart d state) body ws
      ∙ ap (λ (ls : List Lexeme). ls ++ (lexemes_of body ++ ws)) (opening_is d state.kind state.name (unit_name chart state.unit))

  -- this reads the states below, each with this parent
  record Below (levels d s : ℕ) (child : Parser (Unit {0})) : Type 0 where
    reads : (c : ℕ) (state : State) (i : Input) (ws : List Lexeme) → slice_get chart.states c ≡ Some state → parent chart c ≡ Some s → IsRun c (states_from chart levels c)
        → At i (lexemes_of (state_spans chart levels d c) ++ ws) (up_to c) → Answers (child i) tt ws (up_to (c + length (states_from chart levels c)))
    some : (c : ℕ) → parent chart c ≡ Some s → (l : ℕ) × (levels ≡ suc l)

  -- children, in order
  abbrev AreChildren : ℕ → List ℕ → Type 0
  AreChildren s [] = Unit {0}
  AreChildren s (c ∷ cs) = (parent chart c ≡ Some s) × AreChildren s cs

  are_children : (s : ℕ) (cs : List ℕ) → ((c : ℕ) → Mem c cs → parent chart c ≡ Some s) → AreChildren s cs
  are_children s [] h = tt
  are_children s (c ∷ cs) h = (h c (inl refl), are_children s cs (λ k m. h k (inr m)))

  state_there : (c s : ℕ) → parent chart c ≡ Some s → (state : State) × (slice_get chart.states c ≡ Some state)
  state_there c s up = item_at chart.states c (parent_inside chart c s up)

  begins_with_kind : (levels d c s : ℕ) (child : Parser (Unit {0})) → Below levels d s child → parent chart c ≡ Some s → (ws : List Lexeme)
      → (k : Kind) × (rest : List Lexeme) × (lexemes_of (state_spans chart levels d c) ++ ws ≡ word_lexeme (kind_bytes k) ∷ rest)
  begins_with_kind levels d c s child below up ws =
      let state = state_there c s up in
      let more = below.some c up in
      (state.0.kind, _, ap (λ (n : ℕ). lexemes_of (state_spans chart n d c) ++ ws) more.1 ∙ line_is more.0 d c state.0 ws state.1)

  many_children : (levels d s : ℕ) (child : Parser (Unit {0})) → Below levels d s child → (cs : List ℕ) → AreChildren s cs → length cs ≤ length (lexemes_of (inner_spans levels d cs))
  many_children levels d s child below [] h = omega arith
  many_children levels d s child below (c ∷ cs) h =
      let b = begins_with_kind levels d c s child below h.0 [] in
      let parts = ap length (lexemes-append (state_spans chart levels d c) (inner_spans levels d cs)) in
      let first = ap length b.2 in
      omega (arith, parts, first, length-append (lexemes_of (state_spans chart levels d c)) (lexemes_of (inner_spans levels d cs)), length-append (lexemes_of (state_spans chart levels d c)) [], many_children levels d s child below cs h.1)

  -- the first of a run that begins with a state
  run_first : (levels c k : ℕ) (l : ℕ) → levels ≡ suc l → IsRun k (states_from chart levels c) → c ≡ k
  run_first levels c k l is h = let run : IsRun k (states_from chart (suc l) c) = subst (λ (n : ℕ). IsRun k (states_from chart n c)) is h in (subst (IsRun k) (order_is l c) run).0

  children_step : (levels d s : ℕ) (child : Parser (Unit {0})) → Below levels d s child → (cs : List ℕ) (n k : ℕ) (i : Input) (ws : List Lexeme) → length cs < n → AreChildren s cs → IsRun k (inner_order levels cs)
      → At i (lexemes_of (inner_spans levels d cs) ++ sign_lexeme (codes "}") ∷ ws) (up_to k) → Answers (text.children_from child n i) tt ws (up_to (k + length (inner_order levels cs)))
  unfolding text.children_from
  children_step levels d s child below cs zero k i ws few are run at = absurd (omega arith)
  children_step levels d s child below [] (suc n) k i ws few are run at =
      let a = eat_step pieces.CloseBrace i (sign_lexeme (codes "}")) ws (up_to k) at close_is in
      let same : k ≡ k + 0 = omega arith in
      record { behind = a.behind; is = rw a.is refl; at = subst (λ (j : ℕ). At a.behind ws (up_to j)) same a.at }
  children_step levels d s child below (c ∷ cs) (suc n) k i ws few are run at =
      let end = sign_lexeme (codes "}") ∷ ws in
      let rest = lexemes_of (inner_spans levels d cs) ++ end in
      let here = regrouped i _ (lexemes_of (state_spans chart levels d c) ++ rest) (up_to k) (two_parts (state_spans chart levels d c) (inner_spans levels d cs) end) at in
      let b = begins_with_kind levels d c s child below are.0 rest in
      let other : is_piece pieces.CloseBrace (first_piece (lexemes_of (state_spans chart levels d c) ++ rest)) ≡ false =
      ap (λ (ls : List Lexeme). is_piece pieces.CloseBrace (first_piece ls)) b.2 ∙ no_close b.0 b.1 in
      let a = eat_none pieces.CloseBrace i (lexemes_of (state_spans chart levels d c) ++ rest) (up_to k) here other in
      let parts = run_parts k (states_from chart levels c) (inner_order levels cs) run in
      let more = below.some c are.0 in
      let same : c ≡ k = run_first levels c k more.0 more.1 parts.0 in
      let state = state_there c s are.0 in
      let own : IsRun c (states_from chart levels c) = subst (λ (j : ℕ). IsRun j (states_from chart levels c)) (sym same) parts.0 in
      let own_at : At a.behind (lexemes_of (state_spans chart levels d c) ++ rest) (up_to c) = subst (λ (j : ℕ). At a.behind (lexemes_of (state_spans chart levels d c) ++ rest) (up_to j)) (sym same) a.at in
      let e = below.reads c state.0 a.behind rest state.1 are.0 own own_at in
      let next_at_k : At e.behind rest (up_to (k + length (states_from chart levels c))) = subst (λ (j : ℕ). At e.behind rest (up_to (j + length (states_from chart levels c)))) same e.at in
      let g = children_step levels d s child below cs n (k + length (states_from chart levels c)) e.behind ws (omega arith) are.1 parts.1 next_at_k in
      let total : k + length (states_from chart levels c) + length (inner_order levels cs) ≡ k + length (inner_order levels (c ∷ cs)) = omega (arith, length-append (states_from chart levels c) (inner_order levels cs)) in
      record { behind = g.behind; is = rw a.is (rw e.is g.is); at = subst (λ (j : ℕ). At g.behind ws (up_to j)) total g.at }

  -- what follows a state's own line
  body_step : (levels d braces s : ℕ) (i : Input) (ws : List Lexeme) → Below levels (d + 1) s (text.state_with (text.block braces) (Some (record { 0 = s }))) → (cs : List ℕ) (leaf : Bool) → (length cs == 0) ≡ leaf → AreChildren s cs
      → IsRun (suc s) (inner_order levels cs) → At i (lexemes_of (spans.body d leaf (inner_spans levels (d + 1) cs)) ++ ws) (up_to (suc s))
      → Answers (text.body_by (text.block (suc braces) (record { 0 = s })) (first_piece (lexemes_of (spans.body d leaf (inner_spans levels (d + 1) cs)) ++ ws)) i) tt ws (up_to (suc s + length (inner_order levels cs)))
  unfolding text.block text.children
  body_step levels d braces s i ws below [] false is are run at = cc
  body_step levels d braces s i ws below [] true is are run at =
      let same : suc s ≡ suc s + 0 = omega arith in
      record {
        behind = next i;
        is = rw semicolon_is refl;
        at = subst (λ (j : ℕ). At (next i) ws (up_to j)) same (next_at i (sign_lexeme (codes ";")) ws (up_to (suc s)) at);
      }
  body_step levels d braces s i ws below (c ∷ cs) true is are run at = absurd (grind (arith, nat_tests))
  body_step levels d braces s i ws below (c ∷ cs) false is are run at =
      let inside = inner_spans levels (d + 1) (c ∷ cs) in
      let end = sign_lexeme (codes "}") ∷ ws in
      let child = text.state_with (text.block braces) (Some (record { 0 = s })) in
      let grouped : lexemes_of (spans.body d false inside) ++ ws ≡ sign_lexeme (codes "{") ∷ (lexemes_of inside ++ end) =
      ap (λ ls. sign_lexeme (codes "{") ∷ ls) (two_parts inside (spans.closing d) ws) in
      let begins = next_at i (sign_lexeme (codes "{")) (lexemes_of inside ++ end) (up_to (suc s)) (regrouped i _ _ (up_to (suc s)) grouped at) in
      let enough : length (c ∷ cs) < length (next i).left =
      omega (arith, left_at (next i) (lexemes_of inside ++ end) (up_to (suc s)) begins, length-append (lexemes_of inside) end, many_children levels (d + 1) s child below (c ∷ cs) are) in
      let a = children_step levels (d + 1) s child below (c ∷ cs) (length (next i).left) (suc s) (next i) ws enough are run begins in
      record { behind = a.behind; is = ap (λ (p : Piece). text.body_by (text.block (suc braces) (record { 0 = s })) (Some p) i) open_is ∙ a.is; at = a.at }

  -- a state, and all below it
  pub state_step : (levels d braces s : ℕ) (state : State) (parent : Option StateId) (i : Input) (ws : List Lexeme) → levels + d ≡ max_depth → depth chart s ≡ d → levels ≤ braces
      → slice_get chart.states s ≡ Some state → state.parent ≡ parent → IsRun s (states_from chart levels s) → At i (lexemes_of (state_spans chart levels d s) ++ ws) (up_to s)
      → Answers (text.state_with (text.block braces) parent i) tt ws (up_to (s + length (states_from chart levels s)))
  unfolding text.state_with
  state_step zero d braces s state parent i ws total deep room is up run at =
      let within : depth chart s < max_depth = (chart_of chart accepted).few_ancestors s (get_within chart.states s state is) in
      absurd (omega (arith, within))
  state_step (suc levels) d zero s state parent i ws total deep room is up run at = absurd (omega arith)
  state_step (suc levels) d (suc braces) s state parent i ws total deep room is up run at =
      let ok = chart_of chart accepted in
      let cs = children chart s in
      let body = spans.body d (length cs == 0) (inner_spans levels (d + 1) cs) in
      let rest = lexemes_of body ++ ws in
      let a = head_step s state parent i rest is up (regrouped i _ _ (up_to s) (line_is levels d s state ws is) at) in
      let below : Below levels (d + 1) s (text.state_with (text.block braces) (Some (record { 0 = s }))) = record {
        reads = λ c inner j vs there child_up child_run child_at.
            let deeper : depth chart c ≡ d + 1 = depth_child chart ok c s child_up ∙ ap (λ (n : ℕ). n + 1) deep in
            let own : inner.parent ≡ Some (record { 0 = s }) = parent_is inner.parent s (sym (ap (option_and_then parent_of) there) ∙ child_up) in
            state_step levels (d + 1) braces c inner (Some (record { 0 = s })) j vs (omega (arith, total)) deeper (omega arith) there own child_run child_at;
        some = λ c child_up.
            let deeper : depth chart c ≡ d + 1 = depth_child chart ok c s child_up ∙ ap (λ (n : ℕ). n + 1) deep in
            let within : depth chart c < max_depth = ok.few_ancestors c (parent_inside chart c s child_up) in
            one_less levels (omega (arith, total, deeper, within));
      } in
      let inner_run : IsRun (suc s) (inner_order levels cs) = (subst (IsRun s) (order_is levels s) run).1 in
      let b = body_step levels d braces s a.behind ws below cs (length cs == 0) refl (are_children s cs (mem_child_parent chart s)) inner_run a.at in
      let next_is = piece_at a.behind rest (up_to (suc s)) a.at in
      let size : suc s + length (inner_order levels cs) ≡ s + length (states_from chart (suc levels) s) = omega (arith, ap length (order_is levels s)) in
      record {
        behind = b.behind;
        is = rw a.is (rw next_is b.is);
        at = subst (λ (j : ℕ). At b.behind ws (up_to j)) size b.at;
      }
    where
      one_less : (n : ℕ) → 0 < n → (l : ℕ) × (n ≡ suc l)
      one_less zero h = absurd (omega arith)
      one_less (suc l) h = (l, refl)
