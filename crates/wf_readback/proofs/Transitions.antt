-- The transitions of a chart are read back.
use Rattle.std.proofs.Common.{◌≡◌, ℕ, zero, suc, ◌≤◌, true, false, nat_lt, List, [], ◌∷◌, ◌++◌, length, drop, flat_map, Option, Some, None, Ok, refl, sym, ◌∙◌, ap, subst, arith, append-nil, append_assoc, length-append}
use Rattle.std.proofs.lemmas.List.{drop-map, drop_at}
use lib.Chars.{codes}
use Rattle.wf_model.specs.Limits.{max_nodes}
use Rattle.wf_model.specs.declared.ids.EventId.{EventId}
use Rattle.wf_model.specs.declared.ids.VarId.{VarId}
use Rattle.wf_model.specs.declared.ids.ActId.{ActId}
use Rattle.wf_model.specs.declared.ids.StateId.{StateId}
use Rattle.wf_model.specs.declared.expr.Expr.{Expr}
use Rattle.wf_model.specs.declared.chart.Action.{Action}
use Rattle.wf_model.specs.declared.chart.Action.TheVariants as act
use Rattle.wf_model.specs.declared.chart.Transition.{Transition}
use Rattle.wf_model.specs.declared.chart.Chart.{Chart}
use Rattle.wf_model.specs.Accepted.{nodes, is_named, is_known_expr}
use Rattle.wf_cursor.specs.declared.names.Declared.TheVariants as declared_as_a
use Rattle.wf_cursor.specs.declared.piece.Piece.{Piece}
use Rattle.wf_cursor.specs.declared.piece.Piece.TheVariants as pieces
use Rattle.wf_cursor.specs.Pieces.{piece_of, same_piece, word_piece, state_word, moving_word, sign_piece}
use Rattle.wf_cursor.specs.Input.{Input, is_piece, next as skipped}
use Rattle.wf_words.specs.Names.{event_name, var_name, act_name, state_name}
use Rattle.wf_phrase.specs.Expressions.{expr}
use Rattle.wf_text.specs.Transitions.{event_if_any, guard_if_any, assignment, raise_action, start_action, action, actions_from, actions, effects, transition, transitions_from, transitions}
use Rattle.wf_grammar.specs.Lexemes.{Lexeme, lexeme_of}
use Rattle.wf_grammar.specs.Phrases.{IsNameOf}
use Rattle.wf_grammar.specs.Laws.{behind, first_piece, IsNoOperator}
use Rattle.wf_readback.proofs.Spans.{Span, lexemes_of}
use Rattle.wf_readback.proofs.ExprSpans.{AreDeclared, sign, blank, expr_spans, has_short_literals}
use Rattle.wf_readback.proofs.ChartSpans.{between, line_end, behind_commas, listed, action_spans, ends, trigger, condition, transition_line}
use Rattle.wf_readback.proofs.ExprSpelled.{lexemes-append}
use Rattle.wf_readback.proofs.ChartNames.{below, name_lexeme, event_named, var_named, act_named, state_named}
use Rattle.wf_readback.proofs.ExprRead.{expr_is_read}
use Rattle.wf_readback.proofs.Declares.{Declares}
use Rattle.wf_readback.proofs.Steps.{Made, At, Answers, names_at, expect_step, eat_step, eat_none, next_at, piece_at, sees_at, left_at, variable_step, state_step, activity_step, event_step}
use Rattle.wf_readback.proofs.Pieces.{word_lexeme, sign_lexeme, from_is, to_is, on_is, if_is, do_is, raise_is, start_is, semicolon_is, comma_is, assign_is, no_operator_do, no_operator_semicolon, no_operator_comma}

abbrev semicolon : Lexeme
semicolon = sign_lexeme (codes ";")

-- lexemes in another grouping
pub regrouped : (i : Input) (us vs : List Lexeme) (m : Made) → us ≡ vs → At i us m → At i vs m
regrouped i us vs m same at = record { left = at.left ∙ same; made = at.made }

-- an expression is small enough to be read
abbrev pub IsFit : Chart → Expr → Type 0
IsFit chart x = (is_known_expr chart x ≡ true) × (has_short_literals x ≡ true) × (nodes x ≤ max_nodes)

abbrev pub IsFitAction : Chart → Action → Type 0
IsFitAction chart (act.Assign x value) = (nat_lt x.0 (length chart.vars) ≡ true) × IsFit chart value
IsFitAction chart (act.Raise event) = nat_lt event.0 (length chart.events) ≡ true
IsFitAction chart (act.Start a) = nat_lt a.0 (length chart.acts) ≡ true

abbrev pub AreFitActions : Chart → List Action → Type 0
AreFitActions chart [] = Unit {0}
AreFitActions chart (x ∷ xs) = IsFitAction chart x × AreFitActions chart xs

abbrev pub IsFitGuard : Chart → Option Expr → Type 0
IsFitGuard chart None = Unit {0}
IsFitGuard chart (Some x) = IsFit chart x

abbrev pub IsKnownCause : Chart → Option EventId → Type 0
IsKnownCause chart None = Unit {0}
IsKnownCause chart (Some e) = nat_lt e.0 (length chart.events) ≡ true

pub record IsFitTransition (chart : Chart) (t : Transition) : Type 0 where
  pub source : nat_lt t.source.0 (length chart.states) ≡ true
  pub target : nat_lt t.target.0 (length chart.states) ≡ true
  pub event : IsKnownCause chart t.event
  pub guard : IsFitGuard chart t.guard
  pub actions : AreFitActions chart t.actions

abbrev pub AreFitTransitions : Chart → List Transition → Type 0
AreFitTransitions chart [] = Unit {0}
AreFitTransitions chart (t ∷ ts) = IsFitTransition chart t × AreFitTransitions chart ts

-- ---- what is next behind each part

abbrev behind_actions : Chart → List Action → List Lexeme → List Lexeme
behind_actions chart xs more = lexemes_of (listed (between (codes "do")) (action_spans chart) xs) ++ semicolon ∷ more

abbrev behind_guard : Chart → Option Expr → List Action → List Lexeme → List Lexeme
behind_guard chart guard xs more = lexemes_of (condition chart guard) ++ behind_actions chart xs more

is_no_operator : (p q : Piece) → q ≡ p → IsNoOperator (Some p) → IsNoOperator (Some q)
is_no_operator p q same h = subst (λ (r : Piece). IsNoOperator (Some r)) (sym same) h

actions_end : (chart : Chart) (xs : List Action) (more : List Lexeme) → IsNoOperator (first_piece (behind_actions chart xs more))
actions_end chart [] more = is_no_operator pieces.Semicolon semicolon.piece semicolon_is no_operator_semicolon
actions_end chart (x ∷ xs) more = is_no_operator pieces.Do (word_lexeme (codes "do")).piece do_is no_operator_do

no_if : (chart : Chart) (xs : List Action) (more : List Lexeme) → is_piece pieces.If (first_piece (behind_actions chart xs more)) ≡ false
unfolding piece_of word_piece state_word moving_word sign_piece same_piece
no_if chart [] more = refl
no_if chart (x ∷ xs) more = refl

no_on : (chart : Chart) (guard : Option Expr) (xs : List Action) (more : List Lexeme) → is_piece pieces.On (first_piece (behind_guard chart guard xs more)) ≡ false
unfolding piece_of word_piece state_word moving_word sign_piece same_piece
no_on chart (Some x) xs more = refl
no_on chart None [] more = refl
no_on chart None (x ∷ xs) more = refl

no_do : (more : List Lexeme) → is_piece pieces.Do (first_piece (semicolon ∷ more)) ≡ false
unfolding piece_of sign_piece same_piece
no_do more = refl

no_comma : (more : List Lexeme) → is_piece pieces.Comma (first_piece (semicolon ∷ more)) ≡ false
unfolding piece_of sign_piece same_piece
no_comma more = refl

from_next : (ws : List Lexeme) → is_piece pieces.From (first_piece (word_lexeme (codes "from") ∷ ws)) ≡ true
unfolding piece_of word_piece state_word moving_word same_piece
from_next ws = refl

commas_end : (chart : Chart) (xs : List Action) (ws : List Lexeme) → IsNoOperator (first_piece ws) → IsNoOperator (first_piece (lexemes_of (behind_commas (action_spans chart) xs) ++ ws))
commas_end chart [] ws h = h
commas_end chart (x ∷ xs) ws h = is_no_operator pieces.Comma (sign_lexeme (codes ",")).piece comma_is no_operator_comma

pub two_parts : (us vs : List Span) (ws : List Lexeme) → lexemes_of (us ++ vs) ++ ws ≡ lexemes_of us ++ (lexemes_of vs ++ ws)
two_parts us vs ws = ap (λ ls. ls ++ ws) (lexemes-append us vs) ∙ append_assoc (lexemes_of us) (lexemes_of vs) ws

-- more lexemes than items
pub many_lexemes : {A : Type 0} (f : A → List Span) → ((x : A) → 1 ≤ length (lexemes_of (f x))) → (xs : List A) → length xs ≤ length (lexemes_of (flat_map f xs))
many_lexemes f some [] = omega arith
many_lexemes f some (x ∷ xs) =
    let parts = ap length (lexemes-append (f x) (flat_map f xs)) in
    omega (arith, parts, length-append (lexemes_of (f x)) (lexemes_of (flat_map f xs)), some x, many_lexemes f some xs)

-- ---- each part

module _ (chart : Chart) (named : is_named chart ≡ true) (m : Made) (are : Declares m.names chart) where
  var_is : (x : VarId) → nat_lt x.0 (length chart.vars) ≡ true → IsNameOf m.names (declared_as_a.Var x) (word_lexeme (var_name chart x))
  var_is x h = name_lexeme m.names (declared_as_a.Var x) (var_name chart x) (var_named chart named x h) (are.others.vars x (below x.0 (length chart.vars) h))

  state_is : (s : StateId) → nat_lt s.0 (length chart.states) ≡ true → IsNameOf m.names (declared_as_a.State s) (word_lexeme (state_name chart s))
  state_is s h = name_lexeme m.names (declared_as_a.State s) (state_name chart s) (state_named chart named s h) (are.others.states s (below s.0 (length chart.states) h))

  act_is : (a : ActId) → nat_lt a.0 (length chart.acts) ≡ true → IsNameOf m.names (declared_as_a.Activity a) (word_lexeme (act_name chart a))
  act_is a h = name_lexeme m.names (declared_as_a.Activity a) (act_name chart a) (act_named chart named a h) (are.others.acts a (below a.0 (length chart.acts) h))

  event_is : (e : EventId) → nat_lt e.0 (length chart.events) ≡ true → IsNameOf m.names (declared_as_a.Event e) (word_lexeme (event_name chart e))
  event_is e h = name_lexeme m.names (declared_as_a.Event e) (event_name chart e) (event_named chart named e h) (are.events e (below e.0 (length chart.events) h))

  expr_step : (x : Expr) (i : Input) (ws : List Lexeme) → IsFit chart x → IsNoOperator (first_piece ws) → At i (lexemes_of (expr_spans chart x) ++ ws) m → Answers (expr i) x ws m
  expr_step x i ws fit none at =
      let us = lexemes_of (expr_spans chart x) in
      let known_names = subst (λ n. AreDeclared n chart) (sym (names_at i (us ++ ws) m at)) are.others in
      record {
        behind = behind (length us) (nodes x) i;
        is = expr_is_read chart x i ws named known_names fit.0 fit.1 fit.2 at.left none;
        at = record {
          left = sym (drop-map (lexeme_of i.text) (length us) i.left) ∙ ap (drop (length us)) at.left ∙ drop_at us ws (length us) refl;
          made = at.made;
        };
      }

  event_if_any_step : (event : Option EventId) (i : Input) (ws : List Lexeme) → IsKnownCause chart event → is_piece pieces.On (first_piece ws) ≡ false → At i (lexemes_of (trigger chart event) ++ ws) m
      → Answers (event_if_any i) event ws m
  unfolding event_if_any
  event_if_any_step None i ws known other at = let a = eat_none pieces.On i ws m at other in record { behind = a.behind; is = rw a.is refl; at = a.at }
  event_if_any_step (Some e) i ws known other at =
      let w = word_lexeme (event_name chart e) in
      let a = eat_step pieces.On i (word_lexeme (codes "on")) (w ∷ ws) m at on_is in
      let b = event_step a.behind w ws m a.at e (event_is e known) in
      record { behind = b.behind; is = rw a.is (rw b.is refl); at = b.at }

  guard_if_any_step : (guard : Option Expr) (i : Input) (ws : List Lexeme) → IsFitGuard chart guard → is_piece pieces.If (first_piece ws) ≡ false → IsNoOperator (first_piece ws)
      → At i (lexemes_of (condition chart guard) ++ ws) m → Answers (guard_if_any i) guard ws m
  unfolding guard_if_any
  guard_if_any_step None i ws fit other none at = let a = eat_none pieces.If i ws m at other in record { behind = a.behind; is = rw a.is refl; at = a.at }
  guard_if_any_step (Some x) i ws fit other none at =
      let a = eat_step pieces.If i (word_lexeme (codes "if")) (lexemes_of (expr_spans chart x) ++ ws) m at if_is in
      let b = expr_step x a.behind ws fit none a.at in
      record { behind = b.behind; is = rw a.is (rw b.is refl); at = b.at }

  action_step : (x : Action) (i : Input) (ws : List Lexeme) → IsFitAction chart x → IsNoOperator (first_piece ws) → At i (lexemes_of (action_spans chart x) ++ ws) m → Answers (action i) x ws m
  unfolding action assignment raise_action start_action
  action_step (act.Assign x value) i ws fit none at =
      let w = word_lexeme (var_name chart x) in
      let us = lexemes_of (expr_spans chart value) ++ ws in
      let is = var_is x fit.0 in
      let next = piece_at i (w ∷ sign_lexeme (codes ":=") ∷ us) m at ∙ ap Some is.is_name in
      let a = variable_step i w (sign_lexeme (codes ":=") ∷ us) m at x is in
      let b = expect_step pieces.Assign a.behind (sign_lexeme (codes ":=")) us m a.at assign_is in
      let c = expr_step value b.behind ws fit.1 none b.at in
      record { behind = c.behind; is = rw next (rw a.is (rw b.is (rw c.is refl))); at = c.at }
  action_step (act.Raise e) i ws fit none at =
      let w = word_lexeme (event_name chart e) in
      let next = piece_at i (word_lexeme (codes "raise") ∷ w ∷ ws) m at ∙ ap Some raise_is in
      let b = event_step (skipped i) w ws m (next_at i (word_lexeme (codes "raise")) (w ∷ ws) m at) e (event_is e fit) in
      record { behind = b.behind; is = rw next (rw b.is refl); at = b.at }
  action_step (act.Start k) i ws fit none at =
      let w = word_lexeme (act_name chart k) in
      let next = piece_at i (word_lexeme (codes "start") ∷ w ∷ ws) m at ∙ ap Some start_is in
      let b = activity_step (skipped i) w ws m (next_at i (word_lexeme (codes "start")) (w ∷ ws) m at) k (act_is k fit) in
      record { behind = b.behind; is = rw next (rw b.is refl); at = b.at }

  actions_from_step : (xs : List Action) (n : ℕ) (found : List Action) (i : Input) (ws : List Lexeme) → length xs ≤ n → AreFitActions chart xs
      → is_piece pieces.Comma (first_piece ws) ≡ false → IsNoOperator (first_piece ws) → At i (lexemes_of (behind_commas (action_spans chart) xs) ++ ws) m
      → Answers (actions_from n found i) (found ++ xs) ws m
  unfolding actions_from
  actions_from_step [] zero found i ws few fit other none at = record { behind = i; is = ap (λ (l : List Action). Ok (l, i)) (sym (append-nil found)); at = at }
  actions_from_step [] (suc n) found i ws few fit other none at =
      let a = eat_none pieces.Comma i ws m at other in
      record { behind = a.behind; is = rw a.is (ap (λ (l : List Action). Ok (l, a.behind)) (sym (append-nil found))); at = a.at }
  actions_from_step (x ∷ xs) zero found i ws few fit other none at = absurd (omega arith)
  actions_from_step (x ∷ xs) (suc n) found i ws few fit other none at =
      let rest = behind_commas (action_spans chart) xs in
      let us = lexemes_of rest ++ ws in
      let grouped : lexemes_of (behind_commas (action_spans chart) (x ∷ xs)) ++ ws ≡ sign_lexeme (codes ",") ∷ (lexemes_of (action_spans chart x) ++ us) =
      ap (λ ls. sign_lexeme (codes ",") ∷ ls) (two_parts (action_spans chart x) rest ws) in
      let a = eat_step pieces.Comma i (sign_lexeme (codes ",")) (lexemes_of (action_spans chart x) ++ us) m (regrouped i _ _ m grouped at) comma_is in
      let b = action_step x a.behind us fit.0 (commas_end chart xs ws none) a.at in
      let c = actions_from_step xs n (found ++ x ∷ []) b.behind ws (omega arith) fit.1 other none b.at in
      record { behind = c.behind; is = rw a.is (rw b.is (c.is ∙ ap (λ (l : List Action). Ok (l, c.behind)) (append_assoc found (x ∷ []) xs))); at = c.at }

  some_action : (x : Action) → 1 ≤ length (lexemes_of ((sign (codes ",") ∷ blank ∷ []) ++ action_spans chart x))
  some_action x = omega arith

  effects_step : (xs : List Action) (i : Input) (ws : List Lexeme) → AreFitActions chart xs → At i (behind_actions chart xs ws) m → Answers (effects i) xs (semicolon ∷ ws) m
  unfolding effects actions
  effects_step [] i ws fit at = let a = eat_none pieces.Do i (semicolon ∷ ws) m at (no_do ws) in record { behind = a.behind; is = rw a.is refl; at = a.at }
  effects_step (x ∷ xs) i ws fit at =
      let end = semicolon ∷ ws in
      let rest = behind_commas (action_spans chart) xs in
      let us = lexemes_of rest ++ end in
      let ends_well : IsNoOperator (first_piece end) = is_no_operator pieces.Semicolon semicolon.piece semicolon_is no_operator_semicolon in
      let grouped : behind_actions chart (x ∷ xs) ws ≡ word_lexeme (codes "do") ∷ (lexemes_of (action_spans chart x) ++ us) =
      ap (λ ls. word_lexeme (codes "do") ∷ ls) (two_parts (action_spans chart x) rest end) in
      let a = eat_step pieces.Do i (word_lexeme (codes "do")) (lexemes_of (action_spans chart x) ++ us) m (regrouped i _ _ m grouped at) do_is in
      let b = action_step x a.behind us fit.0 (commas_end chart xs end ends_well) a.at in
      let enough : length xs ≤ length b.behind.left =
      omega (arith, left_at b.behind us m b.at, length-append (lexemes_of rest) end, many_lexemes (λ y. (sign (codes ",") ∷ blank ∷ []) ++ action_spans chart y) some_action xs) in
      let c = actions_from_step xs (length b.behind.left) (x ∷ []) b.behind end enough fit.1 (no_comma ws) ends_well b.at in
      record { behind = c.behind; is = rw a.is (rw b.is c.is); at = c.at }

  -- the lexemes of a line, part by part
  line_is : (t : Transition) (ws : List Lexeme) → lexemes_of (transition_line chart t) ++ ws
      ≡ word_lexeme (codes "from") ∷ word_lexeme (state_name chart t.source) ∷ word_lexeme (codes "to") ∷ word_lexeme (state_name chart t.target)
      ∷ (lexemes_of (trigger chart t.event) ++ behind_guard chart t.guard t.actions ws)
  line_is t ws =
      let effects_spans = listed (between (codes "do")) (action_spans chart) t.actions in
      two_parts (ends chart t ++ trigger chart t.event ++ condition chart t.guard ++ effects_spans) line_end ws
      ∙ two_parts (ends chart t ++ trigger chart t.event ++ condition chart t.guard) effects_spans (semicolon ∷ ws)
      ∙ two_parts (ends chart t ++ trigger chart t.event) (condition chart t.guard) (behind_actions chart t.actions ws)
      ∙ two_parts (ends chart t) (trigger chart t.event) (behind_guard chart t.guard t.actions ws)

  transition_step : (t : Transition) (i : Input) (ws : List Lexeme) → IsFitTransition chart t → At i (lexemes_of (transition_line chart t) ++ ws) m → Answers (transition i) t ws m
  unfolding transition
  transition_step t i ws fit at =
      let source = word_lexeme (state_name chart t.source) in
      let target = word_lexeme (state_name chart t.target) in
      let guard = behind_guard chart t.guard t.actions ws in
      let rest = lexemes_of (trigger chart t.event) ++ guard in
      let a = expect_step pieces.From i (word_lexeme (codes "from")) (source ∷ word_lexeme (codes "to") ∷ target ∷ rest) m (regrouped i _ _ m (line_is t ws) at) from_is in
      let b = state_step a.behind source (word_lexeme (codes "to") ∷ target ∷ rest) m a.at t.source (state_is t.source fit.source) in
      let c = expect_step pieces.To b.behind (word_lexeme (codes "to")) (target ∷ rest) m b.at to_is in
      let d = state_step c.behind target rest m c.at t.target (state_is t.target fit.target) in
      let g = event_if_any_step t.event d.behind guard fit.event (no_on chart t.guard t.actions ws) d.at in
      let h = guard_if_any_step t.guard g.behind (behind_actions chart t.actions ws) fit.guard (no_if chart t.actions ws) (actions_end chart t.actions ws) g.at in
      let k = effects_step t.actions h.behind ws fit.actions h.at in
      let l = expect_step pieces.Semicolon k.behind semicolon ws m k.at semicolon_is in
      record { behind = l.behind; is = rw a.is (rw b.is (rw c.is (rw d.is (rw g.is (rw h.is (rw k.is (rw l.is refl))))))); at = l.at }

  some_line : (t : Transition) → 1 ≤ length (lexemes_of (transition_line chart t))
  some_line t = omega (arith, ap length (line_is t []), length-append (lexemes_of (transition_line chart t)) [])

  transitions_from_step : (ts : List Transition) (n : ℕ) (found : List Transition) (i : Input) → length ts ≤ n → AreFitTransitions chart ts → At i (lexemes_of (flat_map (transition_line chart) ts)) m
      → Answers (transitions_from n found i) (found ++ ts) [] m
  unfolding transitions_from
  transitions_from_step [] zero found i few fit at = record { behind = i; is = ap (λ (l : List Transition). Ok (l, i)) (sym (append-nil found)); at = at }
  transitions_from_step [] (suc n) found i few fit at =
      let none = sees_at pieces.From i [] m at in
      record { behind = i; is = rw none (ap (λ (l : List Transition). Ok (l, i)) (sym (append-nil found))); at = at }
  transitions_from_step (t ∷ ts) zero found i few fit at = absurd (omega arith)
  transitions_from_step (t ∷ ts) (suc n) found i few fit at =
      let rest = lexemes_of (flat_map (transition_line chart) ts) in
      let split = lexemes-append (transition_line chart t) (flat_map (transition_line chart) ts) in
      let behind_from = word_lexeme (state_name chart t.source) ∷ word_lexeme (codes "to") ∷ word_lexeme (state_name chart t.target) ∷ (lexemes_of (trigger chart t.event) ++ behind_guard chart t.guard t.actions rest) in
      let whole = regrouped i (lexemes_of (flat_map (transition_line chart) (t ∷ ts))) (word_lexeme (codes "from") ∷ behind_from) m (split ∙ line_is t rest) at in
      let next = sees_at pieces.From i (word_lexeme (codes "from") ∷ behind_from) m whole ∙ from_next behind_from in
      let a = transition_step t i rest fit.0 (regrouped i _ _ m split at) in
      let b = transitions_from_step ts n (found ++ t ∷ []) a.behind (omega arith) fit.1 a.at in
      record { behind = b.behind; is = rw next (rw a.is (b.is ∙ ap (λ (l : List Transition). Ok (l, b.behind)) (append_assoc found (t ∷ []) ts))); at = b.at }

  pub transitions_step : (ts : List Transition) (i : Input) → AreFitTransitions chart ts → At i (lexemes_of (flat_map (transition_line chart) ts)) m → Answers (transitions i) ts [] m
  unfolding transitions
  transitions_step ts i fit at =
      let enough : length ts ≤ length i.left = omega (arith, left_at i _ m at, many_lexemes (transition_line chart) some_line ts) in
      transitions_from_step ts (length i.left) [] i enough fit at
