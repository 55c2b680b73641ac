-- The declarations of a chart are read back.
use Rattle.std.proofs.Common.{◌≡◌, ℕ, zero, suc, ◌≤◌, true, false, nat_lt, List, [], ◌∷◌, ◌++◌, length, Option, Some, None, Ok, refl, sym, ◌∙◌, ap, arith, append-nil, append_assoc, length-append}
use lib.Chars.{codes}
use Rattle.wf_model.specs.Limits.{max_name}
use Rattle.wf_model.specs.declared.ids.UnitId.{UnitId}
use Rattle.wf_model.specs.declared.ids.VarId.{VarId}
use Rattle.wf_model.specs.declared.chart.Event.{Event}
use Rattle.wf_model.specs.declared.chart.Variable.{Variable}
use Rattle.wf_model.specs.declared.chart.Activity.{Activity}
use Rattle.wf_model.specs.declared.chart.Chart.{Chart}
use Rattle.wf_model.specs.Accepted.{is_named}
use Rattle.wf_cursor.specs.declared.names.Declared.{Declared}
use Rattle.wf_cursor.specs.declared.names.Declared.TheVariants as declared_as_a
use Rattle.wf_cursor.specs.declared.piece.Piece.TheVariants as pieces
use Rattle.wf_cursor.specs.Pieces.{piece_of, same_piece, word_piece, sign_piece, comparing_sign}
use Rattle.wf_cursor.specs.Names.{declared_as}
use Rattle.wf_cursor.specs.Input.{Input, is_piece, new_name, with_unit, with_event, with_var, with_act}
use Rattle.wf_words.specs.Names.{unit_name, var_name}
use Rattle.wf_print.specs.Words as words
use Rattle.wf_text.specs.Declarations as decl
use Rattle.wf_grammar.specs.Lexemes.{Lexeme}
use Rattle.wf_grammar.specs.Phrases.{Names, Is, IsNameOf}
use Rattle.wf_grammar.specs.Laws.{first_piece}
use Rattle.wf_readback.proofs.Spans.{Span, lexemes_of}
use Rattle.wf_readback.proofs.ExprSpans.{sign, blank}
use Rattle.wf_readback.proofs.ChartSpans as spans
use Rattle.wf_readback.specs.Held.{is_short_value}
use Rattle.wf_readback.proofs.ChartSpans.{one, first, between, parting, line_end, behind_commas, listed, place_of, literal_spans}
use Rattle.wf_readback.proofs.ChartNames.{name_lexeme, unit_named, var_named}
use Rattle.wf_readback.proofs.Declares.{unit_of, event_of, var_of, act_of}
use Rattle.wf_readback.proofs.New.{found_before}
use Rattle.wf_readback.proofs.Steps.{Made, At, Answers, expect_step, eat_step, eat_none, piece_at, left_at, variable_step, unit_step}
use Rattle.wf_readback.proofs.Pieces.{word_lexeme, sign_lexeme, semicolon_is, comma_is}
use Rattle.wf_readback.proofs.Transitions.{regrouped, two_parts, many_lexemes}
use Rattle.wf_readback.proofs.Declaring.{with_new, new_name_step, next_unit_is, next_event_is, next_var_is, next_act_is, with_unit_at, with_event_at, with_var_at, with_act_at, sort_step, literal_step}

abbrev semicolon : Lexeme
semicolon = sign_lexeme (codes ";")

-- ---- pieces

unit_is : Is pieces.Unit (word_lexeme (codes "unit"))
unfolding piece_of word_piece
unit_is = refl

event_is : Is pieces.Event (word_lexeme (codes "event"))
unfolding piece_of word_piece
event_is = refl

var_is : Is pieces.Var (word_lexeme (codes "var"))
unfolding piece_of word_piece
var_is = refl

activity_is : Is pieces.Activity (word_lexeme (codes "activity"))
unfolding piece_of word_piece
activity_is = refl

pub at_is : Is pieces.At (word_lexeme (codes "at"))
unfolding piece_of word_piece
at_is = refl

gives_is : Is pieces.Gives (word_lexeme (codes "gives"))
unfolding piece_of word_piece
gives_is = refl

colon_is : Is pieces.Colon (sign_lexeme (codes ":"))
unfolding piece_of sign_piece
colon_is = refl

equal_is : Is pieces.Equal (sign_lexeme (codes "="))
unfolding piece_of sign_piece comparing_sign
equal_is = refl

no_at : (ws : List Lexeme) → is_piece pieces.At (first_piece (semicolon ∷ ws)) ≡ false
unfolding piece_of sign_piece same_piece
no_at ws = refl

no_gives : (ws : List Lexeme) → is_piece pieces.Gives (first_piece (semicolon ∷ ws)) ≡ false
unfolding piece_of sign_piece same_piece
no_gives ws = refl

no_comma : (ws : List Lexeme) → is_piece pieces.Comma (first_piece (semicolon ∷ ws)) ≡ false
unfolding piece_of sign_piece same_piece
no_comma ws = refl

-- ---- a name that is declared here

-- it is a name, and none of those before
pub record IsNewName (m : Made) (name : List ℕ) : Type 0 where
  pub piece : (word_lexeme name).piece ≡ pieces.Name
  pub short : length name ≤ max_name
  pub new : declared_as m.names name ≡ None

pub naming : (what : Declared) (i : Input) (name : List ℕ) (ws : List Lexeme) (m : Made) → IsNewName m name → At i (word_lexeme name ∷ ws) m → Answers (new_name what i) name ws (with_new m name what)
naming what i name ws m is at = new_name_step what i (word_lexeme name) ws m at is.piece is.short is.new

-- ---- units

abbrev pub after_unit : Made → List ℕ → Made
after_unit m name = record m { units = m.units ++ name ∷ []; names = m.names ++ (name, unit_of (length m.units)) ∷ [] }

unit_reads : (name : List ℕ) (i : Input) (ws : List Lexeme) (m : Made) → IsNewName m name → At i (word_lexeme (codes "unit") ∷ word_lexeme name ∷ semicolon ∷ ws) m → Answers (decl.unit i) tt ws (after_unit m name)
unfolding decl.unit
unit_reads name i ws m new at =
    let a = expect_step pieces.Unit i (word_lexeme (codes "unit")) (word_lexeme name ∷ semicolon ∷ ws) m at unit_is in
    let id = next_unit_is a.behind _ m a.at in
    let b = naming (unit_of (length m.units)) a.behind name (semicolon ∷ ws) m new a.at in
    let c = expect_step pieces.Semicolon b.behind semicolon ws (with_new m name (unit_of (length m.units))) b.at semicolon_is in
    record { behind = with_unit name c.behind; is = rw a.is (rw id (rw b.is (rw c.is refl))); at = with_unit_at c.behind ws (with_new m name (unit_of (length m.units))) name c.at }

-- ---- places, of events and of activities

module _ (chart : Chart) (named : is_named chart ≡ true) where
  -- the chart's units are declared
  abbrev pub HasUnits : Names → Type 0
  HasUnits names = (u : UnitId) → nat_lt u.0 (length chart.units) ≡ true → declared_as names (unit_name chart u) ≡ Some (declared_as_a.Unit u)

  abbrev pub HasVars : Names → Type 0
  HasVars names = (x : VarId) → nat_lt x.0 (length chart.vars) ≡ true → declared_as names (var_name chart x) ≡ Some (declared_as_a.Var x)

  pub unit_name_is : (names : Names) → HasUnits names → (u : UnitId) → nat_lt u.0 (length chart.units) ≡ true → IsNameOf names (declared_as_a.Unit u) (word_lexeme (unit_name chart u))
  unit_name_is names has u h = name_lexeme names (declared_as_a.Unit u) (unit_name chart u) (unit_named chart named u h) (has u h)

  var_name_is : (names : Names) → HasVars names → (x : VarId) → nat_lt x.0 (length chart.vars) ≡ true → IsNameOf names (declared_as_a.Var x) (word_lexeme (var_name chart x))
  var_name_is names has x h = name_lexeme names (declared_as_a.Var x) (var_name chart x) (var_named chart named x h) (has x h)

  abbrev pub IsKnownPlace : Option UnitId → Type 0
  IsKnownPlace None = Unit {0}
  IsKnownPlace (Some u) = nat_lt u.0 (length chart.units) ≡ true

  unit_if_any_reads : (u : Option UnitId) (i : Input) (ws : List Lexeme) (m : Made) → HasUnits m.names → IsKnownPlace u → At i (lexemes_of (place_of chart u) ++ semicolon ∷ ws) m → Answers (decl.unit_if_any i) u (semicolon ∷ ws) m
  unfolding decl.unit_if_any
  unit_if_any_reads None i ws m has known at = let a = eat_none pieces.At i (semicolon ∷ ws) m at (no_at ws) in record { behind = a.behind; is = rw a.is refl; at = a.at }
  unit_if_any_reads (Some u) i ws m has known at =
      let w = word_lexeme (unit_name chart u) in
      let a = eat_step pieces.At i (word_lexeme (codes "at")) (w ∷ semicolon ∷ ws) m at at_is in
      let b = unit_step a.behind w (semicolon ∷ ws) m a.at u (unit_name_is m.names has u known) in
      record { behind = b.behind; is = rw a.is (rw b.is refl); at = b.at }

  -- ---- events

  abbrev pub after_event : Made → Event → Made
  after_event m x = record m { events = m.events ++ x ∷ []; names = m.names ++ (x.name, event_of (length m.events)) ∷ [] }

  -- the units stay declared
  has_units_more : (m : Made) (name : List ℕ) (what : Declared) → IsNewName m name → HasUnits m.names → HasUnits (with_new m name what).names
  has_units_more m name what new has u h = found_before m.names ((name, what) ∷ []) (unit_name chart u) (declared_as_a.Unit u) (has u h)

  has_vars_more : (m : Made) (name : List ℕ) (what : Declared) → HasVars m.names → HasVars (with_new m name what).names
  has_vars_more m name what has x h = found_before m.names ((name, what) ∷ []) (var_name chart x) (declared_as_a.Var x) (has x h)

  event_reads : (x : Event) (i : Input) (ws : List Lexeme) (m : Made) → IsNewName m x.name → HasUnits m.names → IsKnownPlace x.unit
      → At i (word_lexeme (codes "event") ∷ word_lexeme x.name ∷ (lexemes_of (place_of chart x.unit) ++ semicolon ∷ ws)) m → Answers (decl.event i) tt ws (after_event m x)
  unfolding decl.event
  event_reads x i ws m new has known at =
      let rest = lexemes_of (place_of chart x.unit) ++ semicolon ∷ ws in
      let n = with_new m x.name (event_of (length m.events)) in
      let a = expect_step pieces.Event i (word_lexeme (codes "event")) (word_lexeme x.name ∷ rest) m at event_is in
      let id = next_event_is a.behind _ m a.at in
      let b = naming (event_of (length m.events)) a.behind x.name rest m new a.at in
      let c = unit_if_any_reads x.unit b.behind ws n (has_units_more m x.name (event_of (length m.events)) new has) known b.at in
      let d = expect_step pieces.Semicolon c.behind semicolon ws n c.at semicolon_is in
      record { behind = with_event x d.behind; is = rw a.is (rw id (rw b.is (rw c.is (rw d.is refl)))); at = with_event_at d.behind ws n x d.at }

  -- ---- variables

  abbrev pub after_var : Made → Variable → Made
  after_var m x = record m { vars = m.vars ++ x ∷ []; names = m.names ++ (x.name, var_of (length m.vars)) ∷ [] }

  variable_reads : (x : Variable) (i : Input) (ws : List Lexeme) (m : Made) → IsNewName m x.name → is_short_value x.first ≡ true
      → At i (word_lexeme (codes "var") ∷ word_lexeme x.name ∷ sign_lexeme (codes ":") ∷ word_lexeme (words.sort_word x.sort) ∷ sign_lexeme (codes "=") ∷ (lexemes_of (literal_spans x.first) ++ semicolon ∷ ws)) m
      → Answers (decl.variable i) tt ws (after_var m x)
  unfolding decl.variable
  variable_reads x i ws m new short at =
      let value = lexemes_of (literal_spans x.first) ++ semicolon ∷ ws in
      let sort = word_lexeme (words.sort_word x.sort) in
      let n = with_new m x.name (var_of (length m.vars)) in
      let a = expect_step pieces.Var i (word_lexeme (codes "var")) (word_lexeme x.name ∷ sign_lexeme (codes ":") ∷ sort ∷ sign_lexeme (codes "=") ∷ value) m at var_is in
      let id = next_var_is a.behind _ m a.at in
      let b = naming (var_of (length m.vars)) a.behind x.name (sign_lexeme (codes ":") ∷ sort ∷ sign_lexeme (codes "=") ∷ value) m new a.at in
      let c = expect_step pieces.Colon b.behind (sign_lexeme (codes ":")) (sort ∷ sign_lexeme (codes "=") ∷ value) n b.at colon_is in
      let d = sort_step x.sort c.behind (sign_lexeme (codes "=") ∷ value) n c.at in
      let g = expect_step pieces.Equal d.behind (sign_lexeme (codes "=")) value n d.at equal_is in
      let h = literal_step x.first g.behind (semicolon ∷ ws) n short g.at in
      let k = expect_step pieces.Semicolon h.behind semicolon ws n h.at semicolon_is in
      record { behind = with_var x k.behind; is = rw a.is (rw id (rw b.is (rw c.is (rw d.is (rw g.is (rw h.is (rw k.is refl))))))); at = with_var_at k.behind ws n x k.at }

  -- ---- activities

  abbrev pub output_spans : VarId → List Span
  output_spans x = one (var_name chart x)

  abbrev pub AreKnownVars : List VarId → Type 0
  AreKnownVars [] = Unit {0}
  AreKnownVars (x ∷ xs) = (nat_lt x.0 (length chart.vars) ≡ true) × AreKnownVars xs

  outputs_from_reads : (xs : List VarId) (n : ℕ) (found : List VarId) (i : Input) (ws : List Lexeme) (m : Made) → length xs ≤ n → HasVars m.names → AreKnownVars xs
      → At i (lexemes_of (behind_commas output_spans xs) ++ semicolon ∷ ws) m → Answers (decl.outputs_from n found i) (found ++ xs) (semicolon ∷ ws) m
  unfolding decl.outputs_from
  outputs_from_reads [] zero found i ws m few has known at = record { behind = i; is = ap (λ (l : List VarId). Ok (l, i)) (sym (append-nil found)); at = at }
  outputs_from_reads [] (suc n) found i ws m few has known at =
      let a = eat_none pieces.Comma i (semicolon ∷ ws) m at (no_comma ws) in
      record { behind = a.behind; is = rw a.is (ap (λ (l : List VarId). Ok (l, a.behind)) (sym (append-nil found))); at = a.at }
  outputs_from_reads (x ∷ xs) zero found i ws m few has known at = absurd (omega arith)
  outputs_from_reads (x ∷ xs) (suc n) found i ws m few has known at =
      let us = lexemes_of (behind_commas output_spans xs) ++ semicolon ∷ ws in
      let w = word_lexeme (var_name chart x) in
      let a = eat_step pieces.Comma i (sign_lexeme (codes ",")) (w ∷ us) m at comma_is in
      let b = variable_step a.behind w us m a.at x (var_name_is m.names has x known.0) in
      let c = outputs_from_reads xs n (found ++ x ∷ []) b.behind ws m (omega arith) has known.1 b.at in
      record { behind = c.behind; is = rw a.is (rw b.is (c.is ∙ ap (λ (l : List VarId). Ok (l, c.behind)) (append_assoc found (x ∷ []) xs))); at = c.at }

  some_output : (x : VarId) → 1 ≤ length (lexemes_of ((sign (codes ",") ∷ blank ∷ []) ++ output_spans x))
  some_output x = omega arith

  outputs_if_any_reads : (xs : List VarId) (i : Input) (ws : List Lexeme) (m : Made) → HasVars m.names → AreKnownVars xs → At i (lexemes_of (listed (between (codes "gives")) output_spans xs) ++ semicolon ∷ ws) m
      → Answers (decl.outputs_if_any i) xs (semicolon ∷ ws) m
  unfolding decl.outputs_if_any decl.outputs
  outputs_if_any_reads [] i ws m has known at = let a = eat_none pieces.Gives i (semicolon ∷ ws) m at (no_gives ws) in record { behind = a.behind; is = rw a.is refl; at = a.at }
  outputs_if_any_reads (x ∷ xs) i ws m has known at =
      let rest = lexemes_of (behind_commas output_spans xs) in
      let us = rest ++ semicolon ∷ ws in
      let w = word_lexeme (var_name chart x) in
      let a = eat_step pieces.Gives i (word_lexeme (codes "gives")) (w ∷ us) m at gives_is in
      let b = variable_step a.behind w us m a.at x (var_name_is m.names has x known.0) in
      let enough : length xs ≤ length b.behind.left =
      omega (arith, left_at b.behind us m b.at, length-append rest (semicolon ∷ ws), many_lexemes (λ y. (sign (codes ",") ∷ blank ∷ []) ++ output_spans y) some_output xs) in
      let c = outputs_from_reads xs (length b.behind.left) (x ∷ []) b.behind ws m enough has known.1 b.at in
      record { behind = c.behind; is = rw a.is (rw b.is c.is); at = c.at }

  abbrev pub after_act : Made → Activity → Made
  after_act m x = record m { acts = m.acts ++ x ∷ []; names = m.names ++ (x.name, act_of (length m.acts)) ∷ [] }

  activity_reads : (x : Activity) (i : Input) (ws : List Lexeme) (m : Made) → IsNewName m x.name → HasUnits m.names → HasVars m.names → nat_lt x.unit.0 (length chart.units) ≡ true → AreKnownVars x.outputs
      → At i (word_lexeme (codes "activity") ∷ word_lexeme x.name ∷ word_lexeme (codes "at") ∷ word_lexeme (unit_name chart x.unit) ∷ (lexemes_of (listed (between (codes "gives")) output_spans x.outputs) ++ semicolon ∷ ws)) m
      → Answers (decl.activity i) tt ws (after_act m x)
  unfolding decl.activity
  activity_reads x i ws m new has vars known outputs at =
      let what = act_of (length m.acts) in
      let rest = lexemes_of (listed (between (codes "gives")) output_spans x.outputs) ++ semicolon ∷ ws in
      let unit = word_lexeme (unit_name chart x.unit) in
      let n = with_new m x.name what in
      let a = expect_step pieces.Activity i (word_lexeme (codes "activity")) (word_lexeme x.name ∷ word_lexeme (codes "at") ∷ unit ∷ rest) m at activity_is in
      let id = next_act_is a.behind _ m a.at in
      let b = naming what a.behind x.name (word_lexeme (codes "at") ∷ unit ∷ rest) m new a.at in
      let c = expect_step pieces.At b.behind (word_lexeme (codes "at")) (unit ∷ rest) n b.at at_is in
      let d = unit_step c.behind unit rest n c.at x.unit (unit_name_is n.names (has_units_more m x.name what new has) x.unit known) in
      let g = outputs_if_any_reads x.outputs d.behind ws n (has_vars_more m x.name what vars) outputs d.at in
      let h = expect_step pieces.Semicolon g.behind semicolon ws n g.at semicolon_is in
      record { behind = with_act x h.behind; is = rw a.is (rw id (rw b.is (rw c.is (rw d.is (rw g.is (rw h.is refl)))))); at = with_act_at h.behind ws n x h.at }

  -- ---- a declaration, whatever it is

  pub unit_declared : (name : List ℕ) (i : Input) (ws : List Lexeme) (m : Made) → IsNewName m name → At i (lexemes_of (spans.unit_line name) ++ ws) m → Answers (decl.declaration i) true ws (after_unit m name)
  unfolding decl.declaration
  unit_declared name i ws m new at =
      let a = unit_reads name i ws m new at in
      record { behind = a.behind; is = rw (piece_at i _ m at ∙ ap Some unit_is) (rw a.is refl); at = a.at }

  pub event_declared : (x : Event) (i : Input) (ws : List Lexeme) (m : Made) → IsNewName m x.name → HasUnits m.names → IsKnownPlace x.unit → At i (lexemes_of (spans.event_line chart x) ++ ws) m
      → Answers (decl.declaration i) true ws (after_event m x)
  unfolding decl.declaration
  event_declared x i ws m new has known at =
      let parts = two_parts (first (codes "event") ++ one x.name ++ place_of chart x.unit) line_end ws ∙ two_parts (first (codes "event") ++ one x.name) (place_of chart x.unit) (semicolon ∷ ws) in
      let begins = regrouped i _ (word_lexeme (codes "event") ∷ word_lexeme x.name ∷ (lexemes_of (place_of chart x.unit) ++ semicolon ∷ ws)) m parts at in
      let a = event_reads x i ws m new has known begins in
      record { behind = a.behind; is = rw (piece_at i _ m begins ∙ ap Some event_is) (rw a.is refl); at = a.at }

  pub var_declared : (x : Variable) (i : Input) (ws : List Lexeme) (m : Made) → IsNewName m x.name → is_short_value x.first ≡ true → At i (lexemes_of (spans.var_line x) ++ ws) m → Answers (decl.declaration i) true ws (after_var m x)
  unfolding decl.declaration
  var_declared x i ws m new short at =
      let front = first (codes "var") ++ one x.name ++ parting (codes ":") ++ one (words.sort_word x.sort) ++ parting (codes "=") in
      let parts = two_parts (front ++ literal_spans x.first) line_end ws ∙ two_parts front (literal_spans x.first) (semicolon ∷ ws) in
      let begins = regrouped i _ (word_lexeme (codes "var") ∷ word_lexeme x.name ∷ sign_lexeme (codes ":") ∷ word_lexeme (words.sort_word x.sort) ∷ sign_lexeme (codes "=") ∷ (lexemes_of (literal_spans x.first) ++ semicolon ∷ ws)) m parts at in
      let a = variable_reads x i ws m new short begins in
      record { behind = a.behind; is = rw (piece_at i _ m begins ∙ ap Some var_is) (rw a.is refl); at = a.at }

  pub act_declared : (x : Activity) (i : Input) (ws : List Lexeme) (m : Made) → IsNewName m x.name → HasUnits m.names → HasVars m.names → nat_lt x.unit.0 (length chart.units) ≡ true → AreKnownVars x.outputs
      → At i (lexemes_of (spans.activity_line chart x) ++ ws) m → Answers (decl.declaration i) true ws (after_act m x)
  unfolding decl.declaration
  act_declared x i ws m new has vars known outputs at =
      let front = first (codes "activity") ++ one x.name ++ spans.place chart x.unit in
      let given = listed (between (codes "gives")) output_spans x.outputs in
      let parts = two_parts (front ++ given) line_end ws ∙ two_parts front given (semicolon ∷ ws) in
      let begins = regrouped i _ (word_lexeme (codes "activity") ∷ word_lexeme x.name ∷ word_lexeme (codes "at") ∷ word_lexeme (unit_name chart x.unit) ∷ (lexemes_of given ++ semicolon ∷ ws)) m parts at in
      let a = activity_reads x i ws m new has vars known outputs begins in
      record { behind = a.behind; is = rw (piece_at i _ m begins ∙ ap Some activity_is) (rw a.is refl); at = a.at }
