-- Transitions take what their shapes say, and tell a fault of syntax at the first piece that fits none.
use Rattle.std.proofs.Common.{arith, ◌≡◌, ℕ, zero, suc, ◌≤◌, Bool, true, false, if◌then◌else◌, List, [], ◌∷◌, ◌++◌, length, Option, Some, None, Ok, refl, sym, ◌∙◌, ap, subst}
use Rattle.std.proofs.lemmas.List.{length-map}
use Rattle.wf_model.specs.declared.ids.EventId.{EventId}
use Rattle.wf_model.specs.declared.chart.Action.{Action as Act}
use Rattle.wf_model.specs.declared.chart.Action.TheVariants as act
use Rattle.wf_model.specs.declared.chart.Transition.{Transition as Move}
use Rattle.wf_model.specs.declared.expr.Expr.{Expr as Tree}
use Rattle.wf_cursor.specs.declared.piece.Piece.{Piece}
use Rattle.wf_cursor.specs.declared.piece.Piece.TheVariants as pieces
use Rattle.wf_cursor.specs.Input as input
use Rattle.wf_cursor.specs.Input.{Input, Outcome, Parser, and_then, ◌>>=◌, ◌>>◌, pure, peek, take, syntax, piece, next, sees, eat, expect, here}
use Rattle.wf_phrase.specs.Operators.{or_operator, and_operator, comparison, sum_operator, product_operator}
use Rattle.wf_phrase.specs.Expressions.{expr}
use Rattle.wf_text.specs.Transitions.{event_if_any, guard_if_any, assignment, raise_action, start_action, action_by, action, actions_from, actions, effects, transition, transitions_from, transitions}
use Rattle.wf_grammar.specs.Lexemes.{lexeme_of}
use Rattle.wf_grammar.proofs.Inputs.{sees_piece, piece_sees}
use Rattle.wf_grammar.proofs.Reading.{Follow}
use Rattle.wf_grammar.proofs.Follows.{Anything, EndsExpr}
use Rattle.wf_viable.specs.Shapes.{Shape, first, One, Maybe, Many, ◌·◌}
use Rattle.wf_viable.specs.Charts.{Expr, Action, Actions, Transition}
use Rattle.wf_viable.proofs.Fits.{pieces_left, Fits, Productive, Joins, recast, follows_less, then_fits, no_longer}
use Rattle.wf_viable.proofs.Steps.{piece_first, Next, behind_next, stuck_here, then_keeps, expect_fits, state_fits, event_fits, variable_fits, activity_fits}
use Rattle.wf_viable.proofs.Turns.{none_left}
use Rattle.wf_viable.proofs.Phrases.{name_is_expr, expr_fits}
use Rattle.wf_viable.proofs.Repeats.{some_one, some_then, some_maybe, some_many, Begins, Is, IsNot, any_joins, maybe_joins, many_joins, maybe_some, maybe_none, many_more, many_none, one_then, next_then, eat_fits, regroup, shorter, begins_with, is_apart}

some_expr : Productive Expr
some_expr = record { pieces = pieces.Name ∷ []; shaped = name_is_expr }

-- ---- what ends an expression

expr_ends_at_comma : EndsExpr (Some pieces.Comma)
unfolding or_operator and_operator comparison sum_operator product_operator
expr_ends_at_comma = (((((tt, refl), refl), refl), refl), refl)

expr_ends_at_do : EndsExpr (Some pieces.Do)
unfolding or_operator and_operator comparison sum_operator product_operator
expr_ends_at_do = (((((tt, refl), refl), refl), refl), refl)

expr_ends_at_semicolon : EndsExpr (Some pieces.Semicolon)
unfolding or_operator and_operator comparison sum_operator product_operator
expr_ends_at_semicolon = (((((tt, refl), refl), refl), refl), refl)

-- ---- [ on EVENT ]

abbrev OnEvent : Shape
OnEvent = One pieces.On · One pieces.Name

event_if_any_fits : (i : Input) → Fits i (Maybe OnEvent) (IsNot pieces.On) (event_if_any i)
unfolding event_if_any
event_if_any_fits i = eat_fits i pieces.On (Maybe OnEvent) (IsNot pieces.On) (λ found. if found then (input.event >>= (λ e. pure (Some e))) else pure None)
    (λ h. maybe_some (Is pieces.On) (IsNot pieces.On) OnEvent (begins_with pieces.On (One pieces.Name)) (is_apart pieces.On) i ((input.event >>= (λ e. pure (Some e))) (next i)) h
    (next_then i pieces.On (One pieces.Name) (IsNot pieces.On) ((input.event >>= (λ e. pure (Some e))) (next i)) h
    (follows_less (next i) (One pieces.Name) Anything (IsNot pieces.On) ((input.event >>= (λ e. pure (Some e))) (next i)) (λ q a. tt)
    (then_keeps (next i) (One pieces.Name) Anything (input.event (next i)) (λ e. pure (Some e)) (event_fits (next i)) (λ x j. (refl, refl))))))
    (λ absent. maybe_none (Is pieces.On) (IsNot pieces.On) OnEvent (begins_with pieces.On (One pieces.Name)) (is_apart pieces.On) {A = Option EventId} i (Ok (None, i)) absent (refl, refl))

-- ---- [ if expr ]

abbrev IfExpr : Shape
IfExpr = One pieces.If · Expr

abbrev EndsGuard : Follow
EndsGuard q = EndsExpr q × IsNot pieces.If q

guard_apart : (q : Option Piece) → Is pieces.If q → EndsGuard q → ⊥
guard_apart q h ends = ends.1 h

guard_if_any_fits : (i : Input) → Fits i (Maybe IfExpr) EndsGuard (guard_if_any i)
unfolding guard_if_any
guard_if_any_fits i = eat_fits i pieces.If (Maybe IfExpr) EndsGuard (λ found. if found then (expr >>= (λ x. pure (Some x))) else pure None)
    (λ h. maybe_some (Is pieces.If) EndsGuard IfExpr (begins_with pieces.If Expr) guard_apart i ((expr >>= (λ x. pure (Some x))) (next i)) h
    (next_then i pieces.If Expr EndsGuard ((expr >>= (λ x. pure (Some x))) (next i)) h
    (follows_less (next i) Expr EndsExpr EndsGuard ((expr >>= (λ x. pure (Some x))) (next i)) (λ q a. a.0)
    (then_keeps (next i) Expr EndsExpr (expr (next i)) (λ x. pure (Some x)) (expr_fits (next i)) (λ x j. (refl, refl))))))
    (λ absent. maybe_none (Is pieces.If) EndsGuard IfExpr (begins_with pieces.If Expr) guard_apart {A = Option Tree} i (Ok (None, i)) absent (refl, refl))

-- ---- actions

abbrev Assigned : Shape
Assigned = One pieces.Name · One pieces.Assign · Expr

abbrev Raised : Shape
Raised = One pieces.Raise · One pieces.Name

abbrev Started : Shape
Started = One pieces.Start · One pieces.Name

-- the actions that begin with this
abbrev ActionWith : Piece → Shape
ActionWith pieces.Name = Assigned
ActionWith pieces.Raise = Raised
ActionWith pieces.Start = Started
ActionWith _ = λ ps. ⊥

action_wider : (p : Piece) (us : List Piece) → ActionWith p us → Action us
action_wider pieces.Name us shaped = Action.assigns shaped
action_wider pieces.Raise us shaped = Action.raises shaped
action_wider pieces.Start us shaped = Action.starts shaped
action_wider _ us shaped = absurd shaped

action_narrow : (p : Piece) (us vs : List Piece) → Action us → first (us ++ vs) ≡ Some p → ActionWith p us
action_narrow p us vs (Action.assigns shaped) is =
    let begins = begins_with pieces.Name (One pieces.Assign · Expr) us vs shaped in
    let same : pieces.Name ≡ p = cc in subst (λ q. ActionWith q us) same shaped
action_narrow p us vs (Action.raises shaped) is =
    let begins = begins_with pieces.Raise (One pieces.Name) us vs shaped in
    let same : pieces.Raise ≡ p = cc in subst (λ q. ActionWith q us) same shaped
action_narrow p us vs (Action.starts shaped) is =
    let begins = begins_with pieces.Start (One pieces.Name) us vs shaped in
    let same : pieces.Start ≡ p = cc in subst (λ q. ActionWith q us) same shaped

some_assigned : Productive Assigned
some_assigned = some_then (One pieces.Name) (One pieces.Assign · Expr) (some_one pieces.Name) (some_then (One pieces.Assign) Expr (some_one pieces.Assign) some_expr)

some_action : Productive Action
some_action = record { pieces = some_assigned.pieces; shaped = Action.assigns some_assigned.shaped }

action_with : {A : Type 0} (i : Input) (p : Piece) (r : Outcome A) → Next p i → Fits i (ActionWith p) EndsExpr r → Fits i Action EndsExpr r
action_with i p r h fits = recast i (ActionWith p) Action EndsExpr EndsExpr r (record { wider = action_wider p; narrow = λ us vs shaped follows is. (action_narrow p us vs shaped (is ∙ h), follows) }) fits

assignment_fits : (i : Input) → Fits i Assigned EndsExpr (assignment i)
unfolding assignment
assignment_fits i =
    one_then i pieces.Name (One pieces.Assign · Expr) EndsExpr (input.variable i) _ (some_then (One pieces.Assign) Expr (some_one pieces.Assign) some_expr) (variable_fits i)
    (λ x j. one_then j pieces.Assign Expr EndsExpr (expect pieces.Assign j) _ some_expr (expect_fits j pieces.Assign)
    (λ y k. then_keeps k Expr EndsExpr (expr k) _ (expr_fits k) (λ value m. (refl, refl))))

raise_action_fits : (i : Input) → Next pieces.Raise i → Fits i Raised EndsExpr (raise_action i)
unfolding raise_action
raise_action_fits i h =
    next_then i pieces.Raise (One pieces.Name) EndsExpr (raise_action i) h
    (follows_less (next i) (One pieces.Name) Anything EndsExpr (raise_action i) (λ q a. tt) (then_keeps (next i) (One pieces.Name) Anything (input.event (next i)) (λ e. pure (act.Raise e)) (event_fits (next i)) (λ x j. (refl, refl))))

start_action_fits : (i : Input) → Next pieces.Start i → Fits i Started EndsExpr (start_action i)
unfolding start_action
start_action_fits i h =
    next_then i pieces.Start (One pieces.Name) EndsExpr (start_action i) h
    (follows_less (next i) (One pieces.Name) Anything EndsExpr (start_action i) (λ q a. tt) (then_keeps (next i) (One pieces.Name) Anything (input.activity (next i)) (λ a. pure (act.Start a)) (activity_fits (next i)) (λ x j. (refl, refl))))

action_by_fits : (i : Input) (p : Piece) → Next p i → Fits i Action EndsExpr (action_by (Some p) i)
action_by_fits i pieces.Name h = action_with i pieces.Name (assignment i) h (assignment_fits i)
action_by_fits i pieces.Raise h = action_with i pieces.Raise (raise_action i) h (raise_action_fits i h)
action_by_fits i pieces.Start h = action_with i pieces.Start (start_action i) h (start_action_fits i h)
action_by_fits i p h = stuck_here i Action EndsExpr some_action (λ us vs shaped follows is. action_narrow p us vs shaped (is ∙ h))

action_fits : (i : Input) → Fits i Action EndsExpr (action i)
unfolding action
action_fits i = by_piece (piece i) refl
  where
    by_piece : (q : Option Piece) → piece i ≡ q → Fits i Action EndsExpr (action_by q i)
    by_piece None is = stuck_here i Action EndsExpr some_action (λ us vs shaped follows at_end. by_action us vs shaped (at_end ∙ sym (piece_first i) ∙ is))
      where
        by_action : (us vs : List Piece) → Action us → first (us ++ vs) ≡ None → ⊥
        by_action us vs (Action.assigns shaped) h = let begins = begins_with pieces.Name (One pieces.Assign · Expr) us vs shaped in cc
        by_action us vs (Action.raises shaped) h = let begins = begins_with pieces.Raise (One pieces.Name) us vs shaped in cc
        by_action us vs (Action.starts shaped) h = let begins = begins_with pieces.Start (One pieces.Name) us vs shaped in cc
    by_piece (Some p) is = action_by_fits i p (sym (piece_first i) ∙ is)

-- { , action }
abbrev MoreActions : Shape
MoreActions = One pieces.Comma · Action

abbrev EndsActions : Follow
EndsActions q = EndsExpr q × IsNot pieces.Comma q

comma_apart : (q : Option Piece) → Is pieces.Comma q → EndsActions q → ⊥
comma_apart q h ends = ends.1 h

comma_begins : Begins (Is pieces.Comma) MoreActions
comma_begins = begins_with pieces.Comma Action

expr_then : (p : Piece) → EndsExpr (Some p) → (q : Option Piece) → Is p q → EndsExpr q
expr_then p ends q h = subst EndsExpr (sym h) ends

more_joins : Joins (Many MoreActions) EndsExpr EndsActions
more_joins = many_joins (Is pieces.Comma) MoreActions EndsExpr EndsActions comma_begins (expr_then pieces.Comma expr_ends_at_comma) (λ q ends. ends.0)

actions_from_fits : (n : ℕ) (i : Input) (found : List Act) → length (pieces_left i) ≤ n → Fits i (Many MoreActions) EndsActions (actions_from n found i)
unfolding actions_from
actions_from_fits zero i found short =
    many_none (Is pieces.Comma) EndsActions MoreActions comma_begins comma_apart i (Ok (found, i)) (λ h. (let empty = ap first (none_left i short) in cc)) (refl, refl)
actions_from_fits (suc n) i found short =
    eat_fits i pieces.Comma (Many MoreActions) EndsActions (λ more. if more then (action >>= (λ a. actions_from n (found ++ a ∷ []))) else pure found)
    (λ h.
    let b = behind_next i pieces.Comma h in
    let w = ap length b.whole in
    let k = next i in
    let r = (action >>= (λ a. actions_from n (found ++ a ∷ []))) k in
    many_more (Is pieces.Comma) EndsActions MoreActions comma_begins comma_apart i r h
    (regroup i (One pieces.Comma) Action (Many MoreActions) EndsActions r
    (next_then i pieces.Comma (Action · Many MoreActions) EndsActions r h
    (then_fits k Action (Many MoreActions) EndsExpr EndsActions (action k) (λ a. actions_from n (found ++ a ∷ [])) more_joins (some_many MoreActions) (action_fits k)
    (λ a j got. actions_from_fits n j (found ++ a ∷ []) (let l = no_longer k j Action EndsExpr (action k) a (action_fits k) got in omega arith))))))
    (λ absent. many_none (Is pieces.Comma) EndsActions MoreActions comma_begins comma_apart i (Ok (found, i)) absent (refl, refl))

actions_fits : (i : Input) → Fits i Actions EndsActions (actions i)
unfolding actions
actions_fits i = then_fits i Action (Many MoreActions) EndsExpr EndsActions (action i) (λ a j. actions_from (length j.left) (a ∷ []) j) more_joins (some_many MoreActions) (action_fits i)
    (λ a j got. actions_from_fits (length j.left) j (a ∷ []) (let l = length-map j.left (λ t. (lexeme_of j.text t).piece) in omega arith))

-- ---- [ do action { , action } ]

abbrev DoActions : Shape
DoActions = One pieces.Do · Actions

abbrev EndsEffects : Follow
EndsEffects q = EndsActions q × IsNot pieces.Do q

do_apart : (q : Option Piece) → Is pieces.Do q → EndsEffects q → ⊥
do_apart q h ends = ends.1 h

effects_fits : (i : Input) → Fits i (Maybe DoActions) EndsEffects (effects i)
unfolding effects
effects_fits i = eat_fits i pieces.Do (Maybe DoActions) EndsEffects (λ found. if found then actions else pure [])
    (λ h. maybe_some (Is pieces.Do) EndsEffects DoActions (begins_with pieces.Do Actions) do_apart i (actions (next i)) h
    (next_then i pieces.Do Actions EndsEffects (actions (next i)) h
    (follows_less (next i) Actions EndsActions EndsEffects (actions (next i)) (λ q a. a.0) (actions_fits (next i)))))
    (λ absent. maybe_none (Is pieces.Do) EndsEffects DoActions (begins_with pieces.Do Actions) do_apart {A = List Act} i (Ok ([], i)) absent (refl, refl))

-- ---- transitions

some_end : Productive (One pieces.Semicolon)
some_end = some_one pieces.Semicolon

abbrev FromEffects : Shape
FromEffects = Maybe DoActions · One pieces.Semicolon

abbrev FromGuard : Shape
FromGuard = Maybe IfExpr · FromEffects

abbrev FromCause : Shape
FromCause = Maybe OnEvent · FromGuard

some_effects : Productive FromEffects
some_effects = some_then (Maybe DoActions) (One pieces.Semicolon) (some_maybe DoActions) some_end

some_guard : Productive FromGuard
some_guard = some_then (Maybe IfExpr) FromEffects (some_maybe IfExpr) some_effects

some_cause : Productive FromCause
some_cause = some_then (Maybe OnEvent) FromGuard (some_maybe OnEvent) some_guard

-- what follows a part that may be left out
end_joins : (F : Follow) → F (Some pieces.Semicolon) → Joins (One pieces.Semicolon) F Anything
end_joins F may us vs One.one follows = may

is_then : (F : Follow) (p : Piece) → F (Some p) → (q : Option Piece) → Is p q → F q
is_then F p may q h = subst F (sym h) may

effects_join : Joins (One pieces.Semicolon) EndsEffects Anything
effects_join = end_joins EndsEffects ((expr_ends_at_semicolon, (λ h. cc)), (λ h. cc))

guard_joins : Joins FromEffects EndsGuard Anything
guard_joins = maybe_joins (Is pieces.Do) DoActions (One pieces.Semicolon) EndsGuard Anything (begins_with pieces.Do Actions) (is_then EndsGuard pieces.Do (expr_ends_at_do, (λ h. cc)))
    (end_joins EndsGuard (expr_ends_at_semicolon, (λ h. cc)))

cause_joins : Joins FromGuard (IsNot pieces.On) Anything
cause_joins = maybe_joins (Is pieces.If) IfExpr FromEffects (IsNot pieces.On) Anything (begins_with pieces.If Expr) (is_then (IsNot pieces.On) pieces.If (λ h. cc))
    (maybe_joins (Is pieces.Do) DoActions (One pieces.Semicolon) (IsNot pieces.On) Anything (begins_with pieces.Do Actions) (is_then (IsNot pieces.On) pieces.Do (λ h. cc))
    (end_joins (IsNot pieces.On) (λ h. cc)))

abbrev FromTarget : Shape
FromTarget = One pieces.Name · FromCause

abbrev FromTo : Shape
FromTo = One pieces.To · FromTarget

abbrev FromSource : Shape
FromSource = One pieces.Name · FromTo

some_target : Productive FromTarget
some_target = some_then (One pieces.Name) FromCause (some_one pieces.Name) some_cause

some_to : Productive FromTo
some_to = some_then (One pieces.To) FromTarget (some_one pieces.To) some_target

some_source : Productive FromSource
some_source = some_then (One pieces.Name) FromTo (some_one pieces.Name) some_to

transition_fits : (i : Input) → Fits i Transition Anything (transition i)
unfolding transition
transition_fits i =
    one_then i pieces.From FromSource Anything (expect pieces.From i) _ some_source (expect_fits i pieces.From)
    (λ a j. one_then j pieces.Name FromTo Anything (input.state j) _ some_to (state_fits j)
    (λ source k. one_then k pieces.To FromTarget Anything (expect pieces.To k) _ some_target (expect_fits k pieces.To)
    (λ b l. one_then l pieces.Name FromCause Anything (input.state l) _ some_cause (state_fits l)
    (λ target m. then_fits m (Maybe OnEvent) FromGuard (IsNot pieces.On) Anything (event_if_any m) _ cause_joins some_guard (event_if_any_fits m)
    (λ event n got. then_fits n (Maybe IfExpr) FromEffects EndsGuard Anything (guard_if_any n) _ guard_joins some_effects (guard_if_any_fits n)
    (λ guard o got'. then_fits o (Maybe DoActions) (One pieces.Semicolon) EndsEffects Anything (effects o) _ effects_join some_end (effects_fits o)
    (λ done u got''. then_keeps u (One pieces.Semicolon) Anything (expect pieces.Semicolon u) _ (expect_fits u pieces.Semicolon) (λ c w. (refl, refl)))))))))

-- ---- any number of transitions

pub transition_begins : Begins (Is pieces.From) Transition
transition_begins = begins_with pieces.From FromSource

from_is_none : Is pieces.From None → ⊥
from_is_none h = cc

transitions_from_fits : (n : ℕ) (i : Input) (found : List Move) → length (pieces_left i) ≤ n → Fits i (Many Transition) (IsNot pieces.From) (transitions_from n found i)
unfolding transitions_from
transitions_from_fits zero i found short =
    many_none (Is pieces.From) (IsNot pieces.From) Transition transition_begins (is_apart pieces.From) i (Ok (found, i)) (λ h. (let empty = ap first (none_left i short) in cc)) (refl, refl)
transitions_from_fits (suc n) i found short = by_test (sees pieces.From i) refl (λ j t less. transitions_from_fits n j (found ++ t ∷ []) (omega (arith, less, short)))
  where
    by_test : (b : Bool) → sees pieces.From i ≡ b
        → ((j : Input) (t : Move) → suc (length (pieces_left j)) ≤ length (pieces_left i) → Fits j (Many Transition) (IsNot pieces.From) (transitions_from n (found ++ t ∷ []) j))
        → Fits i (Many Transition) (IsNot pieces.From) ((if b then (transition >>= (λ t. transitions_from n (found ++ t ∷ []))) else pure found) i)
    by_test true is rest =
        many_more (Is pieces.From) (IsNot pieces.From) Transition transition_begins (is_apart pieces.From) i ((transition >>= (λ t. transitions_from n (found ++ t ∷ []))) i) (sym (piece_first i) ∙ sees_piece pieces.From i is)
        (then_fits i Transition (Many Transition) Anything (IsNot pieces.From) (transition i) (λ t. transitions_from n (found ++ t ∷ [])) (any_joins (Many Transition) (IsNot pieces.From)) (some_many Transition) (transition_fits i)
        (λ t j got. rest j t (shorter (Is pieces.From) Anything Transition transition_begins from_is_none i j (transition i) t (transition_fits i) got)))
    by_test false is rest =
        many_none (Is pieces.From) (IsNot pieces.From) Transition transition_begins (is_apart pieces.From) i (Ok (found, i)) (λ h. (let seen = piece_sees pieces.From i (piece_first i ∙ h) in cc)) (refl, refl)

pub transitions_fits : (i : Input) → Fits i (Many Transition) (IsNot pieces.From) (transitions i)
unfolding transitions
transitions_fits i = transitions_from_fits (length i.left) i [] (let l = length-map i.left (λ t. (lexeme_of i.text t).piece) in omega arith)
