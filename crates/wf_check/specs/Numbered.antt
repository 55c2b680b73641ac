-- The numbers: the first part that names a part that isn't there, or that stands out of place.
use Rattle.std.specs.Prelude.{ℕ, nat_lt, [], ◌∷◌, length, Option}
use Rattle.std.specs.Option.{option_map}
use Rattle.wf_model.specs.declared.chart.Chart.{Chart}
use Rattle.wf_model.specs.Accepted.{is_placed_event, is_known_activity, is_placed_state, is_known_transition}
use Rattle.wf_check.specs.declared.fault.What.{What}
use Rattle.wf_check.specs.declared.fault.What.TheVariants as what
use Rattle.wf_check.specs.declared.fault.CheckFault.{CheckFault}
use Rattle.wf_check.specs.declared.fault.CheckFault.TheVariants.{BadId}
use Rattle.wf_check.specs.Firsts.{first_failing, first_failing_numbered, unless, first_some}

-- the number of the first event that isn't in its place, or is at a unit that isn't there
abbrev pub bad_event : Chart → Option ℕ
bad_event c = first_failing_numbered (is_placed_event c) c.events

abbrev pub bad_activity : Chart → Option ℕ
bad_activity c = first_failing (is_known_activity c) c.acts

abbrev pub bad_state : Chart → Option ℕ
bad_state c = first_failing_numbered (is_placed_state c) c.states

abbrev pub bad_transition : Chart → Option ℕ
bad_transition c = first_failing (is_known_transition c) c.transitions

abbrev pub bad_id : What → Option ℕ → Option CheckFault
bad_id what at = option_map (BadId what) at

-- the first part, kind by kind, whose numbers are bad; where there is no event at all, event 0 is not as it should be
unfoldable pub number_fault : Chart → Option CheckFault
number_fault c =
    first_some
    (unless (nat_lt 0 (length c.events)) (BadId what.Events 0)
    ∷ bad_id what.Events (bad_event c)
    ∷ bad_id what.Activities (bad_activity c)
    ∷ bad_id what.States (bad_state c)
    ∷ bad_id what.Transitions (bad_transition c)
    ∷ [])
