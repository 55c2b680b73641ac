-- What a step sees, and which transitions are enabled in it.
use Rattle.std.specs.Prelude.{ℕ, ◌&&◌, Bool, true, false, Option, Some, None, Result, Ok, Err, slice_get, unwrap_or, option_map}
use Rattle.wf_model.specs.declared.value.Val.{Val}
use Rattle.wf_model.specs.declared.value.Val.TheVariants as v
use Rattle.wf_model.specs.declared.expr.Expr.{Expr}
use Rattle.wf_model.specs.declared.expr.Fault.{Fault}
use Rattle.wf_model.specs.declared.ids.EventId.{EventId}
use Rattle.wf_model.specs.declared.chart.Transition.{Transition}
use Rattle.wf_model.specs.declared.chart.Chart.{Chart}
use Rattle.wf_model.specs.Seen.{Seen}
use Rattle.wf_model.specs.Values.{value_of}

-- what expressions read, and which events are there
pub record Snapshot : Type 0 where
  pub seen : Seen
  pub there : ℕ → Bool

abbrev pub is_active : Seen → ℕ → Bool
is_active seen s = unwrap_or (seen.state s) false

-- a transition without event needs none
abbrev pub has_event : (ℕ → Bool) → Option EventId → Bool
has_event there None = true
has_event there (Some e) = there e.0

-- only the value true is true; a fault is not
abbrev pub is_true : Result Val Fault → Bool
is_true (Ok (v.Bool b)) = b
is_true (Ok (v.Int z)) = false
is_true (Ok (v.Text t)) = false
is_true (Err fault) = false

-- a transition without guard needs none
abbrev pub has_guard : Seen → Option Expr → Bool
has_guard seen None = true
has_guard seen (Some guard) = is_true (value_of seen guard)

-- the source is active, the event is there, and the guard is true
abbrev pub is_ready : Snapshot → Transition → Bool
is_ready snap trans = is_active snap.seen trans.source.0 && (has_event snap.there trans.event && has_guard snap.seen trans.guard)

-- transition t is enabled
unfoldable pub is_enabled : Chart → Snapshot → ℕ → Bool
is_enabled chart snap t = unwrap_or (option_map (is_ready snap) (slice_get chart.transitions t)) false
