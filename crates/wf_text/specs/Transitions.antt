-- The rules of transitions.
-- trans = from STATE to STATE [ on EVENT ] [ if expr ] [ do action { , action } ] ;
use Rattle.std.specs.Prelude.{ℕ, zero, suc, if◌then◌else◌, List, [], ◌∷◌, ◌++◌, length, Option, Some, None}
use Rattle.wf_model.specs.declared.ids.EventId.{EventId}
use Rattle.wf_model.specs.declared.chart.Action.{Action}
use Rattle.wf_model.specs.declared.chart.Action.TheVariants as act
use Rattle.wf_model.specs.declared.chart.Transition.{Transition}
use Rattle.wf_model.specs.declared.expr.Expr.{Expr}
use Rattle.wf_cursor.specs.declared.piece.Piece.{Piece}
use Rattle.wf_cursor.specs.declared.piece.Piece.TheVariants as pieces
use Rattle.wf_cursor.specs.Input as input
use Rattle.wf_cursor.specs.Input.{Parser, ◌>>=◌, ◌>>◌, pure, peek, take, syntax, here, sees, eat, expect}
use Rattle.wf_phrase.specs.Expressions.{expr}

-- [ on EVENT ]
unfoldable pub event_if_any : Parser (Option EventId)
event_if_any = do
  found ← eat pieces.On
  if found then (do e ← input.event; pure (Some e)) else pure None

-- [ if expr ]
unfoldable pub guard_if_any : Parser (Option Expr)
guard_if_any = do
  found ← eat pieces.If
  if found then (do guard ← expr; pure (Some guard)) else pure None

-- VAR := expr
unfoldable pub assignment : Parser Action
assignment = do
  x ← input.variable
  expect pieces.Assign
  value ← expr
  pure (act.Assign x value)

-- raise EVENT
unfoldable pub raise_action : Parser Action
raise_action = do
  take
  e ← input.event
  pure (act.Raise e)

-- start ACTIVITY
unfoldable pub start_action : Parser Action
start_action = do
  take
  a ← input.activity
  pure (act.Start a)

abbrev pub action_by : Option Piece → Parser Action
action_by (Some pieces.Name) = assignment
action_by (Some pieces.Raise) = raise_action
action_by (Some pieces.Start) = start_action
action_by _ = syntax

-- action = VAR := expr | raise EVENT | start ACTIVITY
unfoldable pub action : Parser Action
action = peek >>= action_by

-- { , action }: each turn takes a token, so the count of tokens is enough
unfoldable pub actions_from : ℕ → List Action → Parser (List Action)
actions_from zero found = pure found
actions_from (suc n) found = do
  more ← eat pieces.Comma
  if more then (do next ← action; actions_from n (found ++ next ∷ [])) else pure found

-- action { , action }
unfoldable pub actions : Parser (List Action)
actions = action >>= λ first i. actions_from (length i.left) (first ∷ []) i

-- [ do action { , action } ]
unfoldable pub effects : Parser (List Action)
effects = do
  found ← eat pieces.Do
  if found then actions else pure []

-- from STATE to STATE [ on EVENT ] [ if expr ] [ do action { , action } ] ;
unfoldable pub transition : Parser Transition
transition = do
  expect pieces.From
  source ← input.state
  expect pieces.To
  target ← input.state
  event ← event_if_any
  guard ← guard_if_any
  actions ← effects
  expect pieces.Semicolon
  pure (record { source = source; target = target; event = event; guard = guard; actions = actions })

-- { trans }: each turn takes a token, so the count of tokens is enough
unfoldable pub transitions_from : ℕ → List Transition → Parser (List Transition)
transitions_from zero found = pure found
transitions_from (suc n) found = do
  more ← here (sees pieces.From)
  if more then (do next ← transition; transitions_from n (found ++ next ∷ [])) else pure found

unfoldable pub transitions : Parser (List Transition)
transitions = λ i. transitions_from (length i.left) [] i
