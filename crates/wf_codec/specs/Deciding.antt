-- Inner. Whether an update is in range, as truths.
use Rattle.std.specs.Prelude.{◌+◌, ◌==◌, ◌&&◌, ◌||◌, nat_lt, nat_le, Bool, true, List, [], ◌∷◌, length}
use Rattle.std.specs.List.{list_all}
use Rattle.wf_model.specs.Limits.{max_units, max_events, max_vars, max_acts, max_states, max_transitions, max_actions, max_outputs, max_steps, max_fired, max_starts, max_sealed}
use Rattle.wf_model.specs.declared.ids.StateId.{StateId}
use Rattle.wf_model.specs.declared.ids.EventId.{EventId}
use Rattle.wf_model.specs.declared.ids.TransId.{TransId}
use Rattle.wf_model.specs.declared.outer.Output.{Output}
use Rattle.wf_model.specs.declared.outer.Outer.{Outer}
use Rattle.wf_model.specs.declared.outer.Outer.TheVariants.{Happen, Complete}
use Rattle.wf_model.specs.declared.update.Write.{Write}
use Rattle.wf_model.specs.declared.update.StartAt.{StartAt}
use Rattle.wf_model.specs.declared.update.Update.{Update}

-- each stands so before the next
abbrev pub are_in_order : {A : Type 0} → (A → A → Bool) → List A → Bool
are_in_order before [] = true
are_in_order before (x ∷ []) = true
are_in_order before (x ∷ (y ∷ ys)) = before x y && are_in_order before (y ∷ ys)

abbrev pub is_earlier : StartAt → StartAt → Bool
is_earlier a b = nat_lt a.trans.0 b.trans.0 || ((a.trans.0 == b.trans.0) && nat_lt a.place b.place)

abbrev pub is_state : StateId → Bool
is_state s = nat_lt s.0 max_states

abbrev pub is_event : EventId → Bool
is_event e = nat_lt e.0 max_events

abbrev pub is_transition : TransId → Bool
is_transition t = nat_lt t.0 max_transitions

abbrev pub is_write : Write → Bool
is_write w = nat_lt w.var.0 max_vars && nat_lt w.trans.0 max_transitions

abbrev pub is_start : StartAt → Bool
is_start s = nat_lt s.act.0 max_acts && nat_lt s.trans.0 max_transitions && nat_lt s.place max_actions

abbrev pub is_output : Output → Bool
is_output o = nat_lt o.var.0 max_vars

abbrev pub is_outer : Outer → Bool
is_outer (Happen e) = nat_lt e.0 max_events
is_outer (Complete item act outputs) = nat_le 1 item && nat_lt act.0 max_acts && nat_le (length outputs) max_outputs && list_all is_output outputs

-- who sent it, and of which step
abbrev pub is_sent : Update → Bool
is_sent u = nat_lt u.from.0 max_units && nat_le 1 u.step && nat_le u.step (max_steps + 1)

-- the lists, one by one

abbrev pub flips_in : Update → Bool
flips_in u = list_all is_state u.flips && are_in_order (λ a b. nat_lt a.0 b.0) u.flips

abbrev pub writes_in : Update → Bool
writes_in u = list_all is_write u.writes && are_in_order (λ a b. nat_lt a.var.0 b.var.0) u.writes

abbrev pub raised_in : Update → Bool
raised_in u = list_all is_event u.raised && are_in_order (λ a b. nat_lt a.0 b.0) u.raised

abbrev pub starts_in : Update → Bool
starts_in u = list_all is_start u.starts && are_in_order is_earlier u.starts && nat_le (length u.starts) max_starts

abbrev pub fired_in : Update → Bool
fired_in u = list_all is_transition u.fired && are_in_order (λ a b. nat_lt a.0 b.0) u.fired && nat_le (length u.fired) max_fired

abbrev pub outer_in : Update → Bool
outer_in u = list_all is_outer u.outer && nat_le (length u.outer) max_sealed

-- the states, the variables and the events
abbrev pub are_changes : Update → Bool
are_changes u = flips_in u && writes_in u && raised_in u

-- the starts, what fired, and the outers
abbrev pub are_rest : Update → Bool
are_rest u = starts_in u && fired_in u && outer_in u

-- the whole update
abbrev pub is_whole : Update → Bool
is_whole u = is_sent u && are_changes u && are_rest u
