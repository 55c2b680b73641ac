-- Transitions of the grammar are read.
use Rattle.std.proofs.Common.{◌≡◌, ◌≢◌, ℕ, zero, suc, ◌≤◌, ◌⊎◌, inl, inr, true, List, [], ◌∷◌, ◌++◌, length, map, Option, Some, None, refl, sym, ◌∙◌, ap, append_assoc, append-nil, length-append, arith}
use Rattle.wf_model.specs.declared.ids.EventId.{EventId}
use Rattle.wf_model.specs.declared.chart.Action.{Action}
use Rattle.wf_model.specs.declared.chart.Action.TheVariants as act
use Rattle.wf_model.specs.declared.chart.Transition.{Transition}
use Rattle.wf_model.specs.declared.expr.Op.{Op}
use Rattle.wf_model.specs.declared.expr.Op.TheVariants as op
use Rattle.wf_model.specs.declared.expr.Expr.{Expr}
use Rattle.wf_lex.specs.declared.token.Token.{Token}
use Rattle.wf_cursor.specs.declared.piece.Piece.{Piece}
use Rattle.wf_cursor.specs.declared.piece.Piece.TheVariants as pieces
use Rattle.wf_cursor.specs.Input as input
use Rattle.wf_cursor.specs.Input.{Input, Parser, and_then, ◌>>=◌, ◌>>◌, pure, piece, sees, expect}
use Rattle.wf_text.specs.Transitions.{event_if_any, guard_if_any, assignment, raise_action, start_action, action, actions_from, actions, effects, transition, transitions_from, transitions}
use Rattle.wf_grammar.specs.Lexemes.{Lexeme, lexeme_of}
use Rattle.wf_grammar.specs.Phrases.{Names, Is, sign_of}
use Rattle.wf_grammar.specs.Laws.{first_piece, IsNoOperator}
use Rattle.wf_grammar.specs.Scopes.{Scope, scope_of}
use Rattle.wf_grammar.specs.Moving as phrase
use Rattle.wf_grammar.specs.Moving.{SpellsWhole, OnEvent, IfGuard, Acts, Actions, DoActions, Moves, Transitions}
use Rattle.wf_grammar.proofs.Rules.{TransitionsSpelledAreRead}
use Rattle.wf_grammar.proofs.Inputs.{here, piece_sees}
use Rattle.wf_grammar.proofs.Places.{within}
use Rattle.wf_grammar.proofs.Giving.{Gave, then_gives, pure_gave, next_is, begins, not_seen, other_piece, expect_gives, take_gives, eat_gives, eat_not, variable_gives, state_gives, activity_gives, event_gives, expr_gives, fits}
use Rattle.wf_grammar.proofs.DeclaredReads.{GivesAs, NotNext}

-- ---- what may follow an expression

do_is_no_sign : (o : Op) → pieces.Do ≢ sign_of o
do_is_no_sign op.Or h = cc
do_is_no_sign _ h = cc

semicolon_is_no_sign : (o : Op) → pieces.Semicolon ≢ sign_of o
semicolon_is_no_sign op.Or h = cc
semicolon_is_no_sign _ h = cc

comma_is_no_sign : (o : Op) → pieces.Comma ≢ sign_of o
comma_is_no_sign op.Or h = cc
comma_is_no_sign _ h = cc

no_operator : (p : Piece) (found : Option Piece) → ((o : Op) → p ≢ sign_of o) → found ≡ Some p → IsNoOperator found
no_operator p found no_sign is o e = let same : p ≡ sign_of o = cc in no_sign o same

other : (p q : Piece) (found : Option Piece) → p ≢ q → found ≡ Some p → found ≢ Some q
other p q found differ is e = let same : p ≡ q = cc in differ same

-- the semicolon follows
abbrev EndsHere : List Lexeme → Type 0
EndsHere more = first_piece more ≡ Some pieces.Semicolon

-- the actions or the semicolon follow
abbrev Late : List Lexeme → Type 0
Late more = (first_piece more ≡ Some pieces.Do) ⊎ EndsHere more

late_no_operator : (more : List Lexeme) → Late more → IsNoOperator (first_piece more)
late_no_operator more (inl is) = no_operator pieces.Do (first_piece more) do_is_no_sign is
late_no_operator more (inr is) = no_operator pieces.Semicolon (first_piece more) semicolon_is_no_sign is

late_not_if : (more : List Lexeme) → Late more → NotNext pieces.If more
late_not_if more (inl is) = other pieces.Do pieces.If (first_piece more) (λ e. cc) is
late_not_if more (inr is) = other pieces.Semicolon pieces.If (first_piece more) (λ e. cc) is

late_not_on : (more : List Lexeme) → Late more → NotNext pieces.On more
late_not_on more (inl is) = other pieces.Do pieces.On (first_piece more) (λ e. cc) is
late_not_on more (inr is) = other pieces.Semicolon pieces.On (first_piece more) (λ e. cc) is

actions_late : (names : Names) {ds : List Lexeme} {found : List Action} → DoActions names ds found → (more : List Lexeme) → EndsHere more → Late (ds ++ more)
actions_late names phrase.no_action more is = inr is
actions_late names (phrase.do_actions w word found) more is = inl (ap Some word)

guard_not_on : (names : Names) {gs : List Lexeme} {g : Option Expr} → IfGuard names gs g → (more : List Lexeme) → Late more → NotNext pieces.On (gs ++ more)
guard_not_on names phrase.no_guard more late = late_not_on more late
guard_not_on names (phrase.if_guard w word x) more late = other_piece pieces.If pieces.On w (λ e. cc) word

-- ---- events and guards

event_if_any_gives : (text : List ℕ) (s : Scope) {es : List Lexeme} {e : Option EventId} → OnEvent s.names es e → GivesAs text s (NotNext pieces.On) event_if_any es e
unfolding event_if_any
event_if_any_gives text s phrase.no_event more may left at count is =
    then_gives text s s _ _ _ _ _ _ (eat_not text s left at count pieces.On more is may) (λ rest at count is. pure_gave text s None more rest at count is)
event_if_any_gives text s (phrase.on_event w n e word name) more may left at count is =
    then_gives text s s _ _ _ _ _ _ (eat_gives text s left at count w (n ∷ more) is pieces.On word) (λ rest at count is.
    then_gives text s s _ _ _ _ _ _ (event_gives text s rest at count n more is e name) (λ rest at count is. pure_gave text s (Some e) more rest at count is))

guard_if_any_gives : (text : List ℕ) (s : Scope) {gs : List Lexeme} {g : Option Expr} → IfGuard s.names gs g → GivesAs text s Late guard_if_any gs g
unfolding guard_if_any
guard_if_any_gives text s phrase.no_guard more late left at count is =
    then_gives text s s _ _ _ _ _ _ (eat_not text s left at count pieces.If more is (late_not_if more late)) (λ rest at count is. pure_gave text s None more rest at count is)
guard_if_any_gives text s (phrase.if_guard {xs} {x} w word guard) more late left at count is =
    then_gives text s s _ _ _ _ _ _ (eat_gives text s left at count w (xs ++ more) is pieces.If word) (λ rest at count is.
    then_gives text s s _ _ _ _ _ _ (expr_gives text s rest at count xs more x guard (late_no_operator more late) is) (λ rest at count is. pure_gave text s (Some x) more rest at count is))

-- ---- actions

acts_give : (text : List ℕ) (s : Scope) {us : List Lexeme} {a : Action} → Acts s.names us a → GivesAs text s (λ more. IsNoOperator (first_piece more)) action us a
unfolding action assignment raise_action start_action
acts_give text s (phrase.assigns {xs} {value} n becomes x name is_becomes spells) more ends left at count is =
    rw (next_is (within text s) pieces.Name n (becomes ∷ (xs ++ more)) left at count is name.is_name)
    (then_gives text s s _ _ _ _ _ _ (variable_gives text s left at count n (becomes ∷ (xs ++ more)) is x name) (λ rest at count is.
    then_gives text s s _ _ _ _ _ _ (expect_gives text s rest at count becomes (xs ++ more) is pieces.Assign is_becomes) (λ rest at count is.
    then_gives text s s _ _ _ _ _ _ (expr_gives text s rest at count xs more value spells ends is) (λ rest at count is. pure_gave text s (act.Assign x value) more rest at count is))))
acts_give text s (phrase.raises w n e word name) more ends left at count is =
    rw (next_is (within text s) pieces.Raise w (n ∷ more) left at count is word)
    (take_gives text s left at count w (n ∷ more) is s (input.event >>= (λ e. pure (act.Raise e))) (act.Raise e) more (λ rest at count is.
    then_gives text s s _ _ _ _ _ _ (event_gives text s rest at count n more is e name) (λ rest at count is. pure_gave text s (act.Raise e) more rest at count is)))
acts_give text s (phrase.starts w n a word name) more ends left at count is =
    rw (next_is (within text s) pieces.Start w (n ∷ more) left at count is word)
    (take_gives text s left at count w (n ∷ more) is s (input.activity >>= (λ a. pure (act.Start a))) (act.Start a) more (λ rest at count is.
    then_gives text s s _ _ _ _ _ _ (activity_gives text s rest at count n more is a name) (λ rest at count is. pure_gave text s (act.Start a) more rest at count is)))

-- { , action }
data ActionsOn (names : Names) : List Lexeme → List Action → Type 0 where
  actions_end : ActionsOn names [] []
  actions_go_on : {us vs : List Lexeme} {a : Action} {found : List Action} (comma : Lexeme) → Is pieces.Comma comma → Acts names us a → ActionsOn names vs found
      → ActionsOn names (comma ∷ (us ++ vs)) (a ∷ found)

-- an action, and those that follow it
record FirstAction (names : Names) (ws : List Lexeme) (xs : List Action) : Type 0 where
  front : List Lexeme
  value : Action
  words : List Lexeme
  values : List Action
  is : Acts names front value
  go_on : ActionsOn names words values
  same_words : ws ≡ front ++ words
  same_values : xs ≡ value ∷ values

first_action : (names : Names) {ws : List Lexeme} {xs : List Action} → Actions names ws xs → FirstAction names ws xs
first_action names (phrase.one_action {us} {a} is) =
    record { front = us; value = a; words = []; values = []; is = is; go_on = actions_end; same_words = sym (append-nil us); same_values = refl }
first_action names (phrase.more_actions {us} {vs} {a} comma is is_comma others) =
    let f = first_action names others in
    record {
      front = us;
      value = a;
      words = comma ∷ (f.front ++ f.words);
      values = f.value ∷ f.values;
      is = is;
      go_on = actions_go_on comma is_comma f.is f.go_on;
      same_words = ap (λ ls. us ++ comma ∷ ls) f.same_words;
      same_values = ap (λ ls. a ∷ ls) f.same_values;
    }

on_no_operator : (names : Names) {ws : List Lexeme} {xs : List Action} → ActionsOn names ws xs → (more : List Lexeme) → EndsHere more → IsNoOperator (first_piece (ws ++ more))
on_no_operator names actions_end more is = no_operator pieces.Semicolon (first_piece more) semicolon_is_no_sign is
on_no_operator names (actions_go_on comma is_comma a others) more is = no_operator pieces.Comma (Some comma.piece) comma_is_no_sign (ap Some is_comma)

actions_from_give : (text : List ℕ) (s : Scope) {ws : List Lexeme} {xs : List Action} → ActionsOn s.names ws xs → (turns : ℕ) (found : List Action) → length ws ≤ turns
    → GivesAs text s EndsHere (actions_from turns found) ws (found ++ xs)
unfolding actions_from
actions_from_give text s actions_end zero found enough more ends left at count is = rw (append-nil found) (pure_gave text s found more left at count is)
actions_from_give text s actions_end (suc turns) found enough more ends left at count is =
    rw (append-nil found) (then_gives text s s _ _ _ _ _ _ (eat_not text s left at count pieces.Comma more is (other pieces.Semicolon pieces.Comma (first_piece more) (λ e. cc) ends))
    (λ rest at count is. pure_gave text s found more rest at count is))
actions_from_give text s (actions_go_on comma is_comma a others) zero found enough more ends left at count is = absurd (omega arith)
actions_from_give text s (actions_go_on {us} {vs} {a} {found = xs} comma is_comma acts others) (suc turns) found enough more ends left at count is =
    rw (← append_assoc found (a ∷ []) xs) (then_gives text s s _ _ _ _ _ _ (eat_gives text s left at count comma ((us ++ vs) ++ more) is pieces.Comma is_comma) (λ rest at count is.
    then_gives text s s _ _ _ _ _ _ (acts_give text s acts (vs ++ more) (on_no_operator s.names others more ends) rest at count (is ∙ append_assoc us vs more)) (λ rest at count is.
    actions_from_give text s others turns (found ++ a ∷ []) (omega (arith, length-append us vs)) more ends rest at count is)))

actions_give : (text : List ℕ) (s : Scope) {ws : List Lexeme} {xs : List Action} → Actions s.names ws xs → GivesAs text s EndsHere actions ws xs
unfolding actions
actions_give text s acts more ends left at count is =
    let f = first_action s.names acts in
    let is' : map (lexeme_of text) left ≡ f.front ++ (f.words ++ more) = is ∙ ap (λ ls. ls ++ more) f.same_words ∙ append_assoc f.front f.words more in
    rw f.same_values (then_gives text s s _ _ _ _ _ _ (acts_give text s f.is (f.words ++ more) (on_no_operator s.names f.go_on more ends) left at count is') (λ rest at count is.
    actions_from_give text s f.go_on (length rest) (f.value ∷ []) (fits text f.words more rest is) more ends rest at count is))

effects_give : (text : List ℕ) (s : Scope) {ds : List Lexeme} {found : List Action} → DoActions s.names ds found → GivesAs text s EndsHere effects ds found
unfolding effects
effects_give text s phrase.no_action more ends left at count is =
    then_gives text s s _ _ _ _ _ _ (eat_not text s left at count pieces.Do more is (other pieces.Semicolon pieces.Do (first_piece more) (λ e. cc) ends)) (λ rest at count is. pure_gave text s [] more rest at count is)
effects_give text s (phrase.do_actions {ws} w word acts) more ends left at count is =
    then_gives text s s _ _ _ _ _ _ (eat_gives text s left at count w (ws ++ more) is pieces.Do word) (λ rest at count is. actions_give text s acts more ends rest at count is)

-- ---- transitions

-- three phrases and the token that ends them
end_behind : (es gs ds more : List Lexeme) (ends : Lexeme) → (es ++ (gs ++ (ds ++ ends ∷ []))) ++ more ≡ es ++ (gs ++ (ds ++ ends ∷ more))
end_behind es gs ds more ends =
    append_assoc es (gs ++ (ds ++ ends ∷ [])) more
    ∙ ap (λ ls. es ++ ls) (append_assoc gs (ds ++ ends ∷ []) more ∙ ap (λ ls. gs ++ ls) (append_assoc ds (ends ∷ []) more))

moves_give : (text : List ℕ) (s : Scope) {us : List Lexeme} {t : Transition} → Moves s.names us t
    → (more : List Lexeme) (left : List Token) (at count : ℕ) → map (lexeme_of text) left ≡ us ++ more → Gave text s t more (transition (here (within text s) left at count))
unfolding transition
moves_give text s (phrase.moves {es} {gs} {ds} from_word from_name to_word to_name ends source target event guard found is_from is_source is_to is_target on if_ do_ semicolon) more left at count is =
    let last = ends ∷ more in
    let late : Late (ds ++ last) = actions_late s.names do_ last (ap Some semicolon) in
    let behind = es ++ (gs ++ (ds ++ last)) in
    let is' : map (lexeme_of text) left ≡ from_word ∷ from_name ∷ to_word ∷ to_name ∷ behind = is ∙ ap (λ ls. from_word ∷ from_name ∷ to_word ∷ to_name ∷ ls) (end_behind es gs ds more ends) in
    then_gives text s s _ _ _ _ _ _ (expect_gives text s left at count from_word (from_name ∷ to_word ∷ to_name ∷ behind) is' pieces.From is_from) (λ rest at count is.
    then_gives text s s _ _ _ _ _ _ (state_gives text s rest at count from_name (to_word ∷ to_name ∷ behind) is source is_source) (λ rest at count is.
    then_gives text s s _ _ _ _ _ _ (expect_gives text s rest at count to_word (to_name ∷ behind) is pieces.To is_to) (λ rest at count is.
    then_gives text s s _ _ _ _ _ _ (state_gives text s rest at count to_name behind is target is_target) (λ rest at count is.
    then_gives text s s _ _ _ _ _ _ (event_if_any_gives text s on (gs ++ (ds ++ last)) (guard_not_on s.names if_ (ds ++ last) late) rest at count is) (λ rest at count is.
    then_gives text s s _ _ _ _ _ _ (guard_if_any_gives text s if_ (ds ++ last) late rest at count is) (λ rest at count is.
    then_gives text s s _ _ _ _ _ _ (effects_give text s do_ last (ap Some semicolon) rest at count is) (λ rest at count is.
    then_gives text s s _ _ _ _ _ _ (expect_gives text s rest at count ends more is pieces.Semicolon semicolon) (λ rest at count is.
    pure_gave text s (record { source = source; target = target; event = event; guard = guard; actions = found }) more rest at count is))))))))

-- a transition begins with `from`
pub record BeginsWithFrom (ws more : List Lexeme) : Type 0 where
  pub first : first_piece (ws ++ more) ≡ Some pieces.From
  pub some : 1 ≤ length ws

pub moves_begin : (names : Names) {us : List Lexeme} {t : Transition} → Moves names us t → (more : List Lexeme) → BeginsWithFrom us more
moves_begin names (phrase.moves {es} {gs} {ds} from_word from_name to_word to_name ends source target event guard found is_from is_source is_to is_target on if_ do_ semicolon) more =
    record { first = ap Some is_from; some = omega arith }

transitions_from_give : (text : List ℕ) (s : Scope) {ws : List Lexeme} {xs : List Transition} → Transitions s.names ws xs → (turns : ℕ) (found : List Transition) → length ws ≤ turns
    → GivesAs text s (NotNext pieces.From) (transitions_from turns found) ws (found ++ xs)
unfolding transitions_from
transitions_from_give text s phrase.no_transition zero found enough more ends left at count is = rw (append-nil found) (pure_gave text s found more left at count is)
transitions_from_give text s phrase.no_transition (suc turns) found enough more ends left at count is =
    rw (append-nil found) (rw (not_seen (within text s) pieces.From more left at count is ends) (pure_gave text s found more left at count is))
transitions_from_give text s (phrase.more_transitions {us} {vs} {t} {ts = xs} first others) zero found enough more ends left at count is =
    let b = moves_begin s.names first [] in
    let some = b.some in
    absurd (omega (arith, length-append us vs))
transitions_from_give text s (phrase.more_transitions {us} {vs} {t} {ts = xs} first others) (suc turns) found enough more ends left at count is =
    let b = moves_begin s.names first (vs ++ more) in
    let some = b.some in
    let is' : map (lexeme_of text) left ≡ us ++ (vs ++ more) = is ∙ append_assoc us vs more in
    let seen : sees pieces.From (here (within text s) left at count) ≡ true = piece_sees pieces.From (here (within text s) left at count) (begins (within text s) (Some pieces.From) (us ++ (vs ++ more)) left at count is' b.first) in
    rw (← append_assoc found (t ∷ []) xs) (rw seen (then_gives text s s _ _ _ _ _ _ (moves_give text s first (vs ++ more) left at count is') (λ rest at count is.
    transitions_from_give text s others turns (found ++ t ∷ []) (omega (arith, length-append us vs)) more ends rest at count is)))

pub transitions_give : (text : List ℕ) (s : Scope) {ws : List Lexeme} {xs : List Transition} → Transitions s.names ws xs → GivesAs text s (NotNext pieces.From) transitions ws xs
unfolding transitions
transitions_give text s {ws} ts more ends left at count is = transitions_from_give text s ts (length left) [] (fits text ws more left is) more ends left at count is

pub transitions_spelled : TransitionsSpelledAreRead
transitions_spelled i found ws more ts is ends =
    let g = transitions_give i.text (scope_of i) ts more ends i.left i.at i.nodes is in
    record { end = here (within i.text (scope_of i)) g.rest g.at g.count; is_read = g.gives; same_text = refl; declares = refl; left = g.rest_is }
