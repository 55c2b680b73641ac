-- The canonical text, piece by piece: each leads from the beginning or the inside of a line to the one or the other.
use Rattle.std.proofs.Common.{◌≡◌, ℕ, zero, suc, ◌+◌, ◌*◌, ◌/◌, ◌%◌, ◌==◌, ◌&&◌, cond, Bool, true, false, List, [], ◌∷◌, ◌++◌, length, map, flat_map, drop, slice_get, nat_lt, ◌<◌, replicate, Option, Some, None, pos, negsuc, refl, sym, ◌∙◌, ap, arith, append-nil, true≢false}
use Rattle.std.specs.List.{list_all}
use Rattle.std.specs.Option.{option_map_or}
use Rattle.std.specs.Fmt.{decimal, digits, digits_onto, digit_glyph}
use Rattle.std.proofs.lemmas.List.{append_assoc}
use Rattle.std.proofs.lemmas.Bool.Decides.{nat_tests}
use lib.Chars.{codes}
use Rattle.wf_model.specs.declared.ids.UnitId.{UnitId}
use Rattle.wf_model.specs.declared.ids.EventId.{EventId}
use Rattle.wf_model.specs.declared.ids.VarId.{VarId}
use Rattle.wf_model.specs.declared.ids.ActId.{ActId}
use Rattle.wf_model.specs.declared.ids.StateId.{StateId}
use Rattle.wf_model.specs.declared.value.Sort.{Sort}
use Rattle.wf_model.specs.declared.value.Sort.TheVariants as sorts
use Rattle.wf_model.specs.declared.value.Val.{Val}
use Rattle.wf_model.specs.declared.value.Val.TheVariants as v
use Rattle.wf_model.specs.declared.chart.Kind.{Kind}
use Rattle.wf_model.specs.declared.chart.Kind.TheVariants as kinds
use Rattle.wf_model.specs.declared.chart.State.{State}
use Rattle.wf_model.specs.declared.chart.Event.{Event}
use Rattle.wf_model.specs.declared.chart.Variable.{Variable}
use Rattle.wf_model.specs.declared.chart.Activity.{Activity}
use Rattle.wf_model.specs.declared.chart.Action.{Action}
use Rattle.wf_model.specs.declared.chart.Action.TheVariants as act
use Rattle.wf_model.specs.declared.chart.Transition.{Transition}
use Rattle.wf_model.specs.declared.chart.Chart.{Chart}
use Rattle.wf_model.specs.declared.expr.Op.{Op}
use Rattle.wf_model.specs.declared.expr.Op.TheVariants as o
use Rattle.wf_model.specs.declared.expr.Expr.{Expr, end_of-Expr, more_of-Expr}
use Rattle.wf_model.specs.declared.expr.Expr.TheVariants as e
use Rattle.wf_model.specs.Limits.{max_depth}
use Rattle.wf_model.specs.Names.{is_letter, is_word_char, is_word, is_name}
use Rattle.wf_model.specs.Txt.{is_text_char, is_text}
use Rattle.wf_model.specs.Tree.{children, list_from}
use Rattle.wf_model.specs.Accepted.{IsAccepted, is_accepted, is_named, all_of}
use Rattle.wf_words.specs.Names.{unit_name, event_name, var_name, act_name, state_name}
use Rattle.wf_print.specs.Words.{quoted, sort_word, kind_word, op_word, literal, behind_commas, listed}
use Rattle.wf_print.specs.Expressions.{expr_text}
use Rattle.wf_print.specs.Declarations.{chart_line, unit_line, place, place_of, event_line, var_line, activity_line}
use Rattle.wf_print.specs.States.{state_head, opening, closing, body, state_text}
use Rattle.wf_print.specs.Transitions.{action_text, ends, trigger, condition, transition_line}
use Rattle.wf_print.specs.ChartText.{chart_text}
use Rattle.wf_print.specs.Lined.{is_printable, are_lines, is_text_value, has_texts, assigns_texts, moves_by_texts, are_texts, TextIsLined}

-- ---- pieces

-- What follows the piece is in lines where the whole is. The flags say whether a line begins before it, and behind it.
record Moves (before behind : Bool) (piece : List ℕ) : Type 0 where
  moves : (ys : List ℕ) → are_lines before (piece ++ ys) ≡ are_lines behind ys

none : (f : Bool) → Moves f f []
none f = record { moves = λ ys. refl }

join : {f g h : Bool} (a b : List ℕ) → Moves f g a → Moves g h b → Moves f h (a ++ b)
join {f} a b p q = record { moves = λ ys. ap (are_lines f) (append_assoc a b ys) ∙ p.moves (b ++ ys) ∙ q.moves ys }

three : {f g h k : Bool} (a b c : List ℕ) → Moves f g a → Moves g h b → Moves h k c → Moves f k (a ++ b ++ c)
three a b c p q r = join (a ++ b) c (join a b p q) r

four : {f g h k l : Bool} (a b c d : List ℕ) → Moves f g a → Moves g h b → Moves h k c → Moves k l d → Moves f l (a ++ b ++ c ++ d)
four a b c d p q r s = join (a ++ b ++ c) d (three a b c p q r) s

five : {f g h k l m : Bool} (a b c d w : List ℕ) → Moves f g a → Moves g h b → Moves h k c → Moves k l d → Moves l m w → Moves f m (a ++ b ++ c ++ d ++ w)
five a b c d w p q r s t = join (a ++ b ++ c ++ d) w (four a b c d p q r s) t

both_true : (a b : Bool) → (a && b) ≡ true → (a ≡ true) × (b ≡ true)
both_true true b h = (refl, h)
both_true false b h = absurd (true≢false (sym h))

-- printable characters stay in a line
inside : (xs : List ℕ) → list_all is_printable xs ≡ true → Moves false false xs
inside xs h = record { moves = go xs h }
  where
    go : (xs : List ℕ) → list_all is_printable xs ≡ true → (ys : List ℕ) → are_lines false (xs ++ ys) ≡ are_lines false ys
    go [] h ys = refl
    go (b ∷ bs) h ys =
        let p = both_true (is_printable b) (list_all is_printable bs) h in
        let printable : is_printable b ≡ true = p.0 in
        let no_end : (b == 10) ≡ false = grind (arith, nat_tests) in
        rw (no_end, printable) (go bs p.1 ys)

each : {A : Type 0} (f : Bool) (test : A → Bool) (g : A → List ℕ) (xs : List A) → list_all test xs ≡ true → ((x : A) → test x ≡ true → Moves f f (g x)) → Moves f f (flat_map g xs)
each f test g [] h item = none f
each f test g (x ∷ xs) h item =
    let p = both_true (test x) (list_all test xs) h in
    join (g x) (flat_map g xs) (item x p.0) (each f test g xs p.1 item)

all_pass : {A : Type 0} (xs : List A) → list_all (λ _. true) xs ≡ true
all_pass [] = refl
all_pass (x ∷ xs) = all_pass xs

-- the item at a place, where there is one
found : {A : Type 0} (f : Bool) (test : A → Bool) (g : A → List ℕ) (xs : List A) (i : ℕ) → list_all test xs ≡ true → ((x : A) → test x ≡ true → Moves f f (g x)) → Moves f f (list_from g (slice_get xs i))
found f test g [] i h item = none f
found f test g (x ∷ xs) zero h item = item x (both_true (test x) (list_all test xs) h).0
found f test g (x ∷ xs) (suc i) h item = found f test g xs i (both_true (test x) (list_all test xs) h).1 item

-- ---- names, numbers and texts

word_char : (b : ℕ) → is_word_char b ≡ true → is_printable b ≡ true
word_char b h = grind (arith, nat_tests)

word_chars : (bs : List ℕ) → list_all is_word_char bs ≡ true → list_all is_printable bs ≡ true
word_chars [] h = refl
word_chars (b ∷ bs) h =
    let p = both_true (is_word_char b) (list_all is_word_char bs) h in
    rw (word_char b p.0) (word_chars bs p.1)

letter_is_char : (b : ℕ) → is_letter b ≡ true → is_printable b ≡ true
letter_is_char b h = grind (arith, nat_tests)

word_is_printable : (w : List ℕ) → is_word w ≡ true → list_all is_printable w ≡ true
word_is_printable [] h = refl
word_is_printable (b ∷ bs) h =
    let p = both_true (is_letter b) (list_all is_word_char bs) h in
    rw (letter_is_char b p.0) (word_chars bs p.1)

name_is_word : (name : List ℕ) → is_name name ≡ true → is_word name ≡ true
unfolding is_name
name_is_word name h = grind arith

name_in : (name : List ℕ) → is_name name ≡ true → Moves false false name
name_in name h = inside name (word_is_printable name (name_is_word name h))

named_in : {A : Type 0} (name : A → List ℕ) (xs : List A) (i : ℕ) → list_all (λ x. is_name (name x)) xs ≡ true → Moves false false (option_map_or name (slice_get xs i) [])
named_in name [] i h = none false
named_in name (x ∷ xs) zero h = name_in (name x) (both_true (is_name (name x)) (list_all (λ x. is_name (name x)) xs) h).0
named_in name (x ∷ xs) (suc i) h = named_in name xs i (both_true (is_name (name x)) (list_all (λ x. is_name (name x)) xs) h).1

digit_is_printable : (n : ℕ) → is_printable (digit_glyph false (n % 10)) ≡ true
digit_is_printable n =
    let low : n % 10 < 10 = omega arith in
    let tens : nat_lt (n % 10) 10 ≡ true = grind (arith, nat_tests) in
    rw tens (grind (arith, nat_tests))

digits_are_printable : (k n : ℕ) (more : List ℕ) → list_all is_printable more ≡ true → list_all is_printable (digits_onto k 10 false n more) ≡ true
digits_are_printable zero n more h = h
digits_are_printable (suc k) n more h =
    let longer : list_all is_printable (digit_glyph false (n % 10) ∷ more) ≡ true = rw (digit_is_printable n) h in
    by_test (n / 10 == 0) (digit_glyph false (n % 10) ∷ more) (digits_onto k 10 false (n / 10) (digit_glyph false (n % 10) ∷ more)) longer (digits_are_printable k (n / 10) (digit_glyph false (n % 10) ∷ more) longer)
  where
    by_test : (b : Bool) (x y : List ℕ) → list_all is_printable x ≡ true → list_all is_printable y ≡ true → list_all is_printable (cond b x y) ≡ true
    by_test true x y p q = p
    by_test false x y p q = q

number_in : (n : ℕ) → Moves false false (decimal n)
unfolding digits
number_in n = inside (decimal n) (digits_are_printable 64 n [] refl)

text_is_printable : (t : List ℕ) → is_text t ≡ true → list_all is_printable t ≡ true
text_is_printable [] h = refl
text_is_printable (b ∷ bs) h =
    let p = both_true (is_text_char b) (list_all is_text_char bs) h in
    let char : is_text_char b ≡ true = p.0 in
    let printable : is_printable b ≡ true = grind (arith, nat_tests) in
    rw printable (text_is_printable bs p.1)

quoted_in : (t : List ℕ) → is_text t ≡ true → Moves false false (quoted t)
quoted_in t h = three (codes "\"") t (codes "\"") (record { moves = λ ys. refl }) (inside t (text_is_printable t h)) (record { moves = λ ys. refl })

literal_in : (value : Val) → is_text_value value ≡ true → Moves false false (literal value)
literal_in (v.Bool true) h = record { moves = λ ys. refl }
literal_in (v.Bool false) h = record { moves = λ ys. refl }
literal_in (v.Int (pos n)) h = number_in n
literal_in (v.Int (negsuc n)) h = join (codes "- ") (decimal (suc n)) (record { moves = λ ys. refl }) (number_in (suc n))
literal_in (v.Text t) h = quoted_in t h

sort_in : (sort : Sort) → Moves false false (sort_word sort)
sort_in sorts.Bool = record { moves = λ ys. refl }
sort_in sorts.Int = record { moves = λ ys. refl }
sort_in sorts.Text = record { moves = λ ys. refl }

op_in : (op : Op) → Moves false false (op_word op)
op_in o.Or = record { moves = λ ys. refl }
op_in o.And = record { moves = λ ys. refl }
op_in o.Eq = record { moves = λ ys. refl }
op_in o.Ne = record { moves = λ ys. refl }
op_in o.Lt = record { moves = λ ys. refl }
op_in o.Le = record { moves = λ ys. refl }
op_in o.Gt = record { moves = λ ys. refl }
op_in o.Ge = record { moves = λ ys. refl }
op_in o.Add = record { moves = λ ys. refl }
op_in o.Sub = record { moves = λ ys. refl }
op_in o.Mul = record { moves = λ ys. refl }
op_in o.Div = record { moves = λ ys. refl }
op_in o.Rem = record { moves = λ ys. refl }

kind_opens : (k : Kind) → Moves true false (kind_word k)
kind_opens kinds.Basic = record { moves = λ ys. refl }
kind_opens kinds.Or = record { moves = λ ys. refl }
kind_opens kinds.And = record { moves = λ ys. refl }

kind_in : (k : Kind) → Moves false false (kind_word k)
kind_in kinds.Basic = record { moves = λ ys. refl }
kind_in kinds.Or = record { moves = λ ys. refl }
kind_in kinds.And = record { moves = λ ys. refl }

-- items with commas between them
listed_in : {A : Type 0} (word : List ℕ) (test : A → Bool) (g : A → List ℕ) (xs : List A) → Moves false false word → list_all test xs ≡ true → ((x : A) → test x ≡ true → Moves false false (g x))
    → Moves false false (listed word g xs)
listed_in word test g [] opens h item = none false
listed_in word test g (x ∷ xs) opens h item =
    let p = both_true (test x) (list_all test xs) h in
    three word (g x) (behind_commas g xs) opens (item x p.0)
    (each false test (λ y. codes ", " ++ g y) xs p.1 (λ y t. join (codes ", ") (g y) (record { moves = λ ys. refl }) (item y t)))

-- spaces before what may stand at the beginning of a line and within it
spaced : {g : Bool} (n : ℕ) (xs : List ℕ) → Moves true g xs → Moves false g xs → Moves true g (replicate n 32 ++ xs)
spaced zero xs opens within = opens
spaced (suc n) xs opens within =
    let behind = join (replicate n 32) xs (inside (replicate n 32) (spaces n)) within in
    record { moves = λ ys. behind.moves ys }
  where
    spaces : (n : ℕ) → list_all is_printable (replicate n 32) ≡ true
    spaces zero = refl
    spaces (suc n) = spaces n

-- ---- lines

record HasNames (chart : Chart) : Type 0 where
  own : is_name chart.name ≡ true
  units : list_all (λ x. is_name x) chart.units ≡ true
  events : list_all (λ x. is_name x.name) chart.events ≡ true
  vars : list_all (λ x. is_name x.name) chart.vars ≡ true
  acts : list_all (λ x. is_name x.name) chart.acts ≡ true
  states : list_all (λ x. is_name x.name) chart.states ≡ true

unit_line_in : (name : List ℕ) → is_name name ≡ true → Moves true true (unit_line name)
unit_line_in name h = three (codes "unit ") name (codes ";\n") (record { moves = λ ys. refl }) (name_in name h) (record { moves = λ ys. refl })

var_line_in : (x : Variable) → is_name x.name ≡ true → is_text_value x.first ≡ true → Moves true true (var_line x)
var_line_in x h t =
    three (codes "var " ++ x.name ++ codes " : " ++ sort_word x.sort ++ codes " = ") (literal x.first) (codes ";\n")
    (five (codes "var ") x.name (codes " : ") (sort_word x.sort) (codes " = ")
    (record { moves = λ ys. refl }) (name_in x.name h) (record { moves = λ ys. refl }) (sort_in x.sort) (record { moves = λ ys. refl }))
    (literal_in x.first t) (record { moves = λ ys. refl })

module _ (chart : Chart) (named : HasNames chart) where
  chart_line_in : Moves true true (chart_line chart)
  chart_line_in = three (codes "chart ") chart.name (codes ";\n") (record { moves = λ ys. refl }) (name_in chart.name named.own) (record { moves = λ ys. refl })

  place_in : (u : UnitId) → Moves false false (place chart u)
  place_in u = join (codes " at ") (unit_name chart u) (record { moves = λ ys. refl }) (named_in (λ x. x) chart.units u.0 named.units)

  place_of_in : (u : Option UnitId) → Moves false false (place_of chart u)
  place_of_in None = none false
  place_of_in (Some u) = place_in u

  event_in : (x : EventId) → Moves false false (event_name chart x)
  event_in x = named_in (λ (y : Event). y.name) chart.events x.0 named.events

  var_in : (x : VarId) → Moves false false (var_name chart x)
  var_in x = named_in (λ (y : Variable). y.name) chart.vars x.0 named.vars

  act_in : (x : ActId) → Moves false false (act_name chart x)
  act_in x = named_in (λ (y : Activity). y.name) chart.acts x.0 named.acts

  state_name_in : (x : StateId) → Moves false false (state_name chart x)
  state_name_in x = named_in (λ (y : State). y.name) chart.states x.0 named.states

  event_line_in : (x : Event) → is_name x.name ≡ true → Moves true true (event_line chart x)
  event_line_in x h =
      four (codes "event ") x.name (place_of chart x.unit) (codes ";\n") (record { moves = λ ys. refl }) (name_in x.name h) (place_of_in x.unit) (record { moves = λ ys. refl })

  activity_line_in : (x : Activity) → is_name x.name ≡ true → Moves true true (activity_line chart x)
  activity_line_in x h =
      five (codes "activity ") x.name (place chart x.unit) (listed (codes " gives ") (var_name chart) x.outputs) (codes ";\n")
      (record { moves = λ ys. refl }) (name_in x.name h) (place_in x.unit)
      (listed_in (codes " gives ") (λ _. true) (var_name chart) x.outputs (record { moves = λ ys. refl }) (all_pass x.outputs) (λ y t. var_in y)) (record { moves = λ ys. refl })

  -- expressions

  expr_in : (x : Expr) → has_texts x ≡ true → Moves false false (expr_text chart x)
  expr_in (e.Bool true) h = record { moves = λ ys. refl }
  expr_in (e.Bool false) h = record { moves = λ ys. refl }
  expr_in (e.Int n) h = number_in n
  expr_in (e.Text t) h = quoted_in t h
  expr_in (e.Var x) h = var_in x
  expr_in (e.In s) h = three (codes "in(") (state_name chart s) (codes ")") (record { moves = λ ys. refl }) (state_name_in s) (record { moves = λ ys. refl })
  expr_in (e.Count a) h = three (codes "count(") (act_name chart a) (codes ")") (record { moves = λ ys. refl }) (act_in a) (record { moves = λ ys. refl })
  expr_in (e.Done a) h = three (codes "done(") (act_name chart a) (codes ")") (record { moves = λ ys. refl }) (act_in a) (record { moves = λ ys. refl })
  expr_in (e.Not' p (more_of-Expr x end_of-Expr)) h =
      three (codes "(not ") (expr_text chart x) (codes ")") (record { moves = λ ys. refl }) (expr_in x h) (record { moves = λ ys. refl })
  expr_in (e.Neg' p (more_of-Expr x end_of-Expr)) h =
      three (codes "(- ") (expr_text chart x) (codes ")") (record { moves = λ ys. refl }) (expr_in x h) (record { moves = λ ys. refl })
  expr_in (e.Bin' op p (more_of-Expr x end_of-Expr) q (more_of-Expr y end_of-Expr)) h =
      let both = both_true (has_texts x) (has_texts y) h in
      five (codes "(") (expr_text chart x) (op_word op) (expr_text chart y) (codes ")")
      (record { moves = λ ys. refl }) (expr_in x both.0) (op_in op) (expr_in y both.1) (record { moves = λ ys. refl })

  -- transitions

  action_in : (x : Action) → assigns_texts x ≡ true → Moves false false (action_text chart x)
  action_in (act.Assign x value) h = three (var_name chart x) (codes " := ") (expr_text chart value) (var_in x) (record { moves = λ ys. refl }) (expr_in value h)
  action_in (act.Raise event) h = join (codes "raise ") (event_name chart event) (record { moves = λ ys. refl }) (event_in event)
  action_in (act.Start a) h = join (codes "start ") (act_name chart a) (record { moves = λ ys. refl }) (act_in a)

  trigger_in : (x : Option EventId) → Moves false false (trigger chart x)
  trigger_in None = none false
  trigger_in (Some x) = join (codes " on ") (event_name chart x) (record { moves = λ ys. refl }) (event_in x)

  condition_in : (x : Option Expr) → all_of has_texts x ≡ true → Moves false false (condition chart x)
  condition_in None h = none false
  condition_in (Some x) h = join (codes " if ") (expr_text chart x) (record { moves = λ ys. refl }) (expr_in x h)

  ends_in : (t : Transition) → Moves true false (ends chart t)
  ends_in t =
      four (codes "from ") (state_name chart t.source) (codes " to ") (state_name chart t.target)
      (record { moves = λ ys. refl }) (state_name_in t.source) (record { moves = λ ys. refl }) (state_name_in t.target)

  transition_line_in : (t : Transition) → moves_by_texts t ≡ true → Moves true true (transition_line chart t)
  unfolding transition_line
  transition_line_in t h =
      let both = both_true (all_of has_texts t.guard) (list_all assigns_texts t.actions) h in
      five (ends chart t) (trigger chart t.event) (condition chart t.guard) (listed (codes " do ") (action_text chart) t.actions) (codes ";\n")
      (ends_in t) (trigger_in t.event) (condition_in t.guard both.0)
      (listed_in (codes " do ") assigns_texts (action_text chart) t.actions (record { moves = λ ys. refl }) both.1 action_in) (record { moves = λ ys. refl })

  -- states

  head_opens : (s : State) → is_name s.name ≡ true → Moves true false (state_head chart s)
  head_opens s h = three (kind_word s.kind) s.name (place chart s.unit) (kind_opens s.kind) (name_in s.name h) (place_in s.unit)

  head_in : (s : State) → is_name s.name ≡ true → Moves false false (state_head chart s)
  head_in s h = three (kind_word s.kind) s.name (place chart s.unit) (kind_in s.kind) (name_in s.name h) (place_in s.unit)

  opening_in : (depth : ℕ) (s : State) → is_name s.name ≡ true → Moves true false (opening chart depth s)
  opening_in depth s h = spaced (2 * depth) (state_head chart s) (head_opens s h) (head_in s h)

  body_in : (depth : ℕ) (leaf : Bool) (texts : List ℕ) → Moves true true texts → Moves false true (body depth leaf texts)
  body_in depth true texts h = record { moves = λ ys. refl }
  body_in depth false texts h =
      three (codes " {\n") texts (closing depth) (record { moves = λ ys. refl }) h
      (spaced (2 * depth) (codes "}\n") (record { moves = λ ys. refl }) (record { moves = λ ys. refl }))

  state_in : (levels depth s : ℕ) → Moves true true (state_text chart levels depth s)
  unfolding state_text
  state_in zero depth s = none true
  state_in (suc levels) depth s =
      let texts = flat_map (state_text chart levels (depth + 1)) (children chart s) in
      let leaf = length (children chart s) == 0 in
      found true (λ x. is_name x.name) (λ x. opening chart depth x ++ body depth leaf texts) chart.states s named.states
      (λ x h. join (opening chart depth x) (body depth leaf texts) (opening_in depth x h)
      (body_in depth leaf texts (each true (λ _. true) (state_text chart levels (depth + 1)) (children chart s) (all_pass (children chart s)) (λ k t. state_in levels (depth + 1) k))))

-- ---- the whole

all_append : {A : Type 0} (test : A → Bool) (xs ys : List A) → list_all test (xs ++ ys) ≡ true → (list_all test xs ≡ true) × (list_all test ys ≡ true)
all_append test [] ys h = (refl, h)
all_append test (x ∷ xs) ys h =
    let p = both_true (test x) (list_all test (xs ++ ys)) h in
    let q = all_append test xs ys p.1 in
    (rw p.0 q.0, q.1)

all_map : {A B : Type 0} (test : B → Bool) (f : A → B) (xs : List A) → list_all test (map f xs) ≡ true → list_all (λ x. test (f x)) xs ≡ true
all_map test f [] h = refl
all_map test f (x ∷ xs) h = let p = both_true (test (f x)) (list_all test (map f xs)) h in rw p.0 (all_map test f xs p.1)

all_both : {A : Type 0} (p q : A → Bool) (xs : List A) → list_all p xs ≡ true → list_all q xs ≡ true → list_all (λ x. p x && q x) xs ≡ true
all_both p q [] h k = refl
all_both p q (x ∷ xs) h k =
    let a = both_true (p x) (list_all p xs) h in
    let b = both_true (q x) (list_all q xs) k in
    rw (a.0, b.0) (all_both p q xs a.1 b.1)

all_behind : {A : Type 0} (test : A → Bool) (xs : List A) → list_all test xs ≡ true → list_all test (drop 1 xs) ≡ true
all_behind test [] h = h
all_behind test (x ∷ xs) h = (both_true (test x) (list_all test xs) h).1

is_named_of : (chart : Chart) → IsAccepted chart → is_named chart ≡ true
unfolding is_accepted
is_named_of chart ok = grind arith

names : (chart : Chart) → is_named chart ≡ true → HasNames chart
unfolding is_named
names chart h =
    let events = map (λ (x : Event). x.name) chart.events in
    let vars = map (λ (x : Variable). x.name) chart.vars in
    let acts = map (λ (x : Activity). x.name) chart.acts in
    let states = map (λ (x : State). x.name) chart.states in
    let own : is_name chart.name ≡ true = grind arith in
    let all : list_all is_name (chart.units ++ events ++ vars ++ acts ++ states) ≡ true = grind arith in
    let a = all_append is_name (chart.units ++ events ++ vars ++ acts) states all in
    let b = all_append is_name (chart.units ++ events ++ vars) acts a.0 in
    let c = all_append is_name (chart.units ++ events) vars b.0 in
    let d = all_append is_name chart.units events c.0 in
    record {
      own = own;
      units = d.0;
      events = all_map is_name (λ (x : Event). x.name) chart.events d.1;
      vars = all_map is_name (λ (x : Variable). x.name) chart.vars c.1;
      acts = all_map is_name (λ (x : Activity). x.name) chart.acts b.1;
      states = all_map is_name (λ (x : State). x.name) chart.states a.1;
    }

whole : (chart : Chart) → HasNames chart → are_texts chart ≡ true → Moves true true (chart_text chart)
unfolding chart_text are_texts
whole chart named h =
    let texts = both_true (list_all (λ x. is_text_value x.first) chart.vars) (list_all moves_by_texts chart.transitions) h in
    let units = flat_map unit_line chart.units in
    let events = flat_map (event_line chart) (drop 1 chart.events) in
    let vars = flat_map var_line chart.vars in
    let acts = flat_map (activity_line chart) chart.acts in
    let states = state_text chart max_depth 0 0 in
    let transitions = flat_map (transition_line chart) chart.transitions in
    three (chart_line chart ++ units ++ events ++ vars ++ acts) states transitions
    (five (chart_line chart) units events vars acts (chart_line_in chart named)
    (each true (λ x. is_name x) unit_line chart.units named.units unit_line_in)
    (each true (λ x. is_name x.name) (event_line chart) (drop 1 chart.events) (all_behind (λ x. is_name x.name) chart.events named.events) (event_line_in chart named))
    (each true (λ x. is_name x.name && is_text_value x.first) var_line chart.vars (all_both (λ x. is_name x.name) (λ x. is_text_value x.first) chart.vars named.vars texts.0)
    (λ x p. let q = both_true (is_name x.name) (is_text_value x.first) p in var_line_in x q.0 q.1))
    (each true (λ x. is_name x.name) (activity_line chart) chart.acts named.acts (activity_line_in chart named)))
    (state_in chart named max_depth 0 0)
    (each true moves_by_texts (transition_line chart) chart.transitions texts.1 (transition_line_in chart named))

pub text_is_lined : TextIsLined
text_is_lined chart ok texts =
    let all = whole chart (names chart (is_named_of chart ok)) texts in
    ap (are_lines true) (sym (append-nil (chart_text chart))) ∙ all.moves []
