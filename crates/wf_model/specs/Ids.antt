-- The id of a number.
use Rattle.std.specs.Prelude.{ℕ}
use Rattle.wf_model.specs.declared.ids.StateId.{StateId}
use Rattle.wf_model.specs.declared.ids.TransId.{TransId}
use Rattle.wf_model.specs.declared.ids.VarId.{VarId}
use Rattle.wf_model.specs.declared.ids.EventId.{EventId}
use Rattle.wf_model.specs.declared.ids.ActId.{ActId}
use Rattle.wf_model.specs.declared.ids.UnitId.{UnitId}

abbrev pub state_id : ℕ → StateId
state_id s = record { 0 = s }

abbrev pub trans_id : ℕ → TransId
trans_id t = record { 0 = t }

abbrev pub var_id : ℕ → VarId
var_id x = record { 0 = x }

abbrev pub event_id : ℕ → EventId
event_id e = record { 0 = e }

abbrev pub act_id : ℕ → ActId
act_id a = record { 0 = a }

abbrev pub unit_id : ℕ → UnitId
unit_id u = record { 0 = u }
