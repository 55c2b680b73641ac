-- Of other calls. Reading the fields of an update.
use Rattle.std.specs.Prelude.{ℕ, suc, ◌+◌, ◌-◌, ◌^◌, ◌==◌, List, [], ◌∷◌, length, Option, Some, None, Result, Ok, Err, if◌then◌else◌}
use Rattle.std.specs.Int.{w16, w32, w64, cast_signed}
use Rattle.wf_model.specs.Limits.{max_units, max_states, max_transitions, max_actions, max_outputs, max_text, max_steps, max_fired, max_starts, max_sealed}
use Rattle.wf_model.specs.Txt.{is_text_char}
use Rattle.wf_model.specs.declared.ids.StateId.{StateId}
use Rattle.wf_model.specs.declared.ids.EventId.{EventId}
use Rattle.wf_model.specs.declared.ids.TransId.{TransId}
use Rattle.wf_model.specs.declared.value.Val.{Val}
use Rattle.wf_model.specs.declared.value.Val.TheVariants as v
use Rattle.wf_model.specs.declared.outer.Output.{Output}
use Rattle.wf_model.specs.declared.outer.Outer.{Outer}
use Rattle.wf_model.specs.declared.outer.Outer.TheVariants.{Happen, Complete}
use Rattle.wf_model.specs.declared.update.Write.{Write}
use Rattle.wf_model.specs.declared.update.StartAt.{StartAt}
use Rattle.wf_model.specs.declared.update.Update.{Update}
use Rattle.wf_codec.specs.declared.fault.Misfit.{Misfit}
use Rattle.wf_codec.specs.declared.fault.Misfit.TheVariants.{Short, Bad}
use Rattle.wf_codec.specs.declared.fault.CodecFault.{CodecFault}
use Rattle.wf_codec.specs.declared.fault.CodecFault.TheVariants as codec
use Rattle.wf_codec.specs.declared.field.Numbers.{Numbers}
use Rattle.wf_codec.specs.Tags.{bool_sort, int_sort, text_sort, happen_kind, complete_kind, update_tag}
use Rattle.wf_codec.specs.Ranges.{chart_numbers}
use Rattle.wf_model.specs.Steps.{◌>>=◌}
use Rattle.wf_codec.specs.Reading.{byte_in, number_in, eight_at, items_at, bytes_that, least_after}

-- a truth behind its sort
unfoldable pub bool_at : List ℕ → Result (Val × List ℕ) Misfit
bool_at bytes = do
  b ← byte_in 0 2 bytes
  Ok (v.Bool (b.0 == 1), b.1)

-- an integer behind its sort
unfoldable pub int_at : List ℕ → Result (Val × List ℕ) Misfit
int_at bytes = do
  n ← eight_at bytes
  Ok (v.Int (cast_signed w64 n.0), n.1)

-- a text behind its sort
unfoldable pub text_at : List ℕ → Result (Val × List ℕ) Misfit
text_at bytes = do
  len ← byte_in 0 (max_text + 1) bytes
  cs ← bytes_that is_text_char len.0 len.1
  Ok (v.Text cs.0, cs.1)

-- a value behind its sort
unfoldable pub value_at : List ℕ → Result (Val × List ℕ) Misfit
value_at bytes = do
  sort ← byte_in bool_sort (text_sort + 1) bytes
  if sort.0 == bool_sort then bool_at sort.1 else (if sort.0 == int_sort then int_at sort.1 else text_at sort.1)

-- The items of lists, each behind the one before it, if there is one, and in an order.

-- a state over the one before it
unfoldable pub state_at : Option StateId → List ℕ → Result (StateId × List ℕ) Misfit
state_at before bytes = do
  n ← number_in w16 (least_after (λ s. s.0) before) max_states bytes
  Ok (record { 0 = n.0 }, n.1)

-- an event over the one before it
unfoldable pub event_at : Numbers → Option EventId → List ℕ → Result (EventId × List ℕ) Misfit
event_at numbers before bytes = do
  n ← number_in w16 (least_after (λ e. e.0) before) numbers.events bytes
  Ok (record { 0 = n.0 }, n.1)

-- a transition over the one before it
unfoldable pub trans_at : Option TransId → List ℕ → Result (TransId × List ℕ) Misfit
trans_at before bytes = do
  n ← number_in w16 (least_after (λ t. t.0) before) max_transitions bytes
  Ok (record { 0 = n.0 }, n.1)

-- a write of a variable over that of the write before it
unfoldable pub write_at : Numbers → Option Write → List ℕ → Result (Write × List ℕ) Misfit
write_at numbers before bytes = do
  var ← number_in w16 (least_after (λ w. w.var.0) before) numbers.vars bytes
  trans ← number_in w16 0 max_transitions var.1
  val ← value_at trans.1
  Ok (record { var = record { 0 = var.0 }; trans = record { 0 = trans.0 }; val = val.0 }, val.1)

-- the least transition of a start that may follow
abbrev pub least_trans : Option StartAt → ℕ
least_trans None = 0
least_trans (Some s) = s.trans.0

-- the least place of a start that may follow, where it is of this transition
abbrev pub least_place : Option StartAt → ℕ → ℕ
least_place None t = 0
least_place (Some s) t = if s.trans.0 == t then suc s.place else 0

-- a start by a later action than the one before it: of a later transition, or at a later place of the same one
unfoldable pub start_at : Numbers → Option StartAt → List ℕ → Result (StartAt × List ℕ) Misfit
start_at numbers before bytes = do
  act ← number_in w16 0 numbers.acts bytes
  trans ← number_in w16 (least_trans before) max_transitions act.1
  place ← byte_in (least_place before trans.0) max_actions trans.1
  Ok (record { act = record { 0 = act.0 }; trans = record { 0 = trans.0 }; place = place.0 }, place.1)

-- an output of any variable
unfoldable pub output_at : Numbers → Option Output → List ℕ → Result (Output × List ℕ) Misfit
output_at numbers before bytes = do
  var ← number_in w16 0 numbers.vars bytes
  val ← value_at var.1
  Ok (record { var = record { 0 = var.0 }; val = val.0 }, val.1)

-- an event that happens, behind its kind
unfoldable pub happening_at : Numbers → List ℕ → Result (Outer × List ℕ) Misfit
happening_at numbers bytes = do
  event ← number_in w16 0 numbers.events bytes
  Ok (Happen (record { 0 = event.0 }), event.1)

-- an item that is completed, behind its kind
unfoldable pub completion_at : Numbers → List ℕ → Result (Outer × List ℕ) Misfit
completion_at numbers bytes = do
  item ← number_in w32 1 (2 ^ 32) bytes
  act ← number_in w16 0 numbers.acts item.1
  count ← byte_in 0 (max_outputs + 1) act.1
  outputs ← items_at (output_at numbers) count.0 None count.1
  Ok (Complete item.0 (record { 0 = act.0 }) outputs.0, outputs.1)

-- an outer behind its kind
unfoldable pub outer_at : Numbers → Option Outer → List ℕ → Result (Outer × List ℕ) Misfit
outer_at numbers before bytes = do
  kind ← byte_in happen_kind (complete_kind + 1) bytes
  if kind.0 == happen_kind then happening_at numbers kind.1 else completion_at numbers kind.1

-- a list behind its count, which is below a bound
unfoldable pub list_at : {A : Type 0} → (Option A → List ℕ → Result (A × List ℕ) Misfit) → ℕ → List ℕ → Result (List A × List ℕ) Misfit
list_at item bound bytes = do
  count ← number_in w16 0 bound bytes
  items_at item count.0 None count.1

-- an update of a unit with a number over that of the update before it
unfoldable pub update_at : Numbers → Option Update → List ℕ → Result (Update × List ℕ) Misfit
update_at numbers before bytes = do
  tag ← byte_in update_tag (update_tag + 1) bytes
  from ← byte_in (least_after (λ u. u.from.0) before) max_units tag.1
  step ← number_in w32 1 (max_steps + 2) from.1
  flips ← list_at state_at (max_states + 1) step.1
  writes ← list_at (write_at numbers) (2 ^ 16) flips.1
  raised ← list_at (event_at numbers) (2 ^ 16) writes.1
  starts ← list_at (start_at numbers) (max_starts + 1) raised.1
  fired ← list_at trans_at (max_fired + 1) starts.1
  outer ← list_at (outer_at numbers) (max_sealed + 1) fired.1
  Ok (record { from = record { 0 = from.0 }; step = step.0; flips = flips.0; writes = writes.0; raised = raised.0; starts = starts.0; fired = fired.0; outer = outer.0 }, outer.1)

-- what reading an update from the front of bytes of this length tells: the update and its length, or the fault and its place
abbrev pub told : ℕ → Result (Update × List ℕ) Misfit → Result (Update × ℕ) CodecFault
told len (Ok (u, rest)) = Ok (u, len - length rest)
told len (Err Short) = Err codec.Short
told len (Err (Bad left)) = Err (codec.BadField (len - left))

-- the update that begins the bytes, or what is wrong with them
unfoldable pub decoded : List ℕ → Result (Update × ℕ) CodecFault
decoded [] = Err codec.Short
decoded (tag ∷ rest) = if tag == update_tag then told (suc (length rest)) (update_at chart_numbers None (tag ∷ rest)) else Err codec.BadTag
