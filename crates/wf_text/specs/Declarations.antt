-- The rules of declarations.
-- decl = unit NAME ; | event NAME [ at UNIT ] ; | var NAME : SORT = literal ;
--      | activity NAME at UNIT [ gives VAR { , VAR } ] ;
use Rattle.std.specs.Prelude.{ℕ, zero, suc, Bool, true, false, if◌then◌else◌, List, [], ◌∷◌, ◌++◌, length, Option, Some, None}
use Rattle.wf_model.specs.declared.ids.UnitId.{UnitId}
use Rattle.wf_model.specs.declared.ids.VarId.{VarId}
use Rattle.wf_cursor.specs.declared.names.Declared.TheVariants as declared_as_a
use Rattle.wf_cursor.specs.declared.piece.Piece.{Piece}
use Rattle.wf_cursor.specs.declared.piece.Piece.TheVariants as pieces
use Rattle.wf_cursor.specs.Input as input
use Rattle.wf_cursor.specs.Input.{Parser, ◌>>=◌, ◌>>◌, pure, peek, eat, expect, new_name, here, changed, next_unit, next_event, next_var, next_act, with_unit, with_event, with_var, with_act}
use Rattle.wf_phrase.specs.Literals.{sort, literal}

-- unit NAME ;
unfoldable pub unit : Parser (Unit {0})
unit = do
  expect pieces.Unit
  id ← here next_unit
  name ← new_name (declared_as_a.Unit id)
  expect pieces.Semicolon
  changed (with_unit name)

-- [ at UNIT ]
unfoldable pub unit_if_any : Parser (Option UnitId)
unit_if_any = do
  found ← eat pieces.At
  if found then (do u ← input.unit; pure (Some u)) else pure None

-- event NAME [ at UNIT ] ;
unfoldable pub event : Parser (Unit {0})
event = do
  expect pieces.Event
  id ← here next_event
  name ← new_name (declared_as_a.Event id)
  unit ← unit_if_any
  expect pieces.Semicolon
  changed (with_event (record { name = name; unit = unit }))

-- var NAME : SORT = literal ;
unfoldable pub variable : Parser (Unit {0})
variable = do
  expect pieces.Var
  id ← here next_var
  name ← new_name (declared_as_a.Var id)
  expect pieces.Colon
  kind ← sort
  expect pieces.Equal
  first ← literal
  expect pieces.Semicolon
  changed (with_var (record { name = name; sort = kind; first = first }))

-- { , VAR }: each turn takes a token, so the count of tokens is enough
unfoldable pub outputs_from : ℕ → List VarId → Parser (List VarId)
outputs_from zero found = pure found
outputs_from (suc n) found = do
  more ← eat pieces.Comma
  if more then (do x ← input.variable; outputs_from n (found ++ x ∷ [])) else pure found

-- VAR { , VAR }
unfoldable pub outputs : Parser (List VarId)
outputs = input.variable >>= λ x i. outputs_from (length i.left) (x ∷ []) i

-- [ gives VAR { , VAR } ]
unfoldable pub outputs_if_any : Parser (List VarId)
outputs_if_any = do
  found ← eat pieces.Gives
  if found then outputs else pure []

-- activity NAME at UNIT [ gives VAR { , VAR } ] ;
unfoldable pub activity : Parser (Unit {0})
activity = do
  expect pieces.Activity
  id ← here next_act
  name ← new_name (declared_as_a.Activity id)
  expect pieces.At
  unit ← input.unit
  outputs ← outputs_if_any
  expect pieces.Semicolon
  changed (with_act (record { name = name; unit = unit; outputs = outputs }))

abbrev pub declaration_by : Option Piece → Parser Bool
declaration_by (Some pieces.Unit) = unit >> pure true
declaration_by (Some pieces.Event) = event >> pure true
declaration_by (Some pieces.Var) = variable >> pure true
declaration_by (Some pieces.Activity) = activity >> pure true
declaration_by _ = pure false

-- a declaration, if one comes next
unfoldable pub declaration : Parser Bool
declaration = peek >>= declaration_by

-- { decl }: each turn takes a token, so the count of tokens is enough
unfoldable pub declarations_from : ℕ → Parser (Unit {0})
declarations_from zero = pure tt
declarations_from (suc n) = do
  found ← declaration
  if found then declarations_from n else pure tt

unfoldable pub declarations : Parser (Unit {0})
declarations = λ i. declarations_from (length i.left) i
