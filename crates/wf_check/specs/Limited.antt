-- The limits: the first quantity that is over its own.
use Rattle.std.specs.Prelude.{◌≡◌, ◌≤◌, ◌&&◌, Bool, true, nat_le, [], ◌∷◌, length, Option}
use Rattle.std.specs.List.{list_all}
use Rattle.wf_model.specs.Limits.{max_units, max_events, max_vars, max_acts, max_states, max_transitions, max_actions, max_outputs, max_nodes}
use Rattle.wf_model.specs.declared.chart.Chart.{Chart}
use Rattle.wf_model.specs.declared.chart.Activity.{Activity}
use Rattle.wf_model.specs.declared.chart.Transition.{Transition}
use Rattle.wf_model.specs.Accepted.{all_of, nodes, is_small_action}
use Rattle.wf_check.specs.declared.fault.What.{What}
use Rattle.wf_check.specs.declared.fault.What.TheVariants as what
use Rattle.wf_check.specs.declared.fault.CheckFault.{CheckFault}
use Rattle.wf_check.specs.declared.fault.CheckFault.TheVariants.{TooMany}
use Rattle.wf_check.specs.Firsts.{unless, first_some}

abbrev pub has_few_actions : Transition → Bool
has_few_actions t = nat_le (length t.actions) max_actions

abbrev pub has_few_outputs : Activity → Bool
has_few_outputs a = nat_le (length a.outputs) max_outputs

-- the guard and the assigned values have few nodes
abbrev pub has_small_exprs : Transition → Bool
has_small_exprs t = all_of (λ guard. nat_le (nodes guard) max_nodes) t.guard && list_all is_small_action t.actions

-- too many of these, unless the test passes
abbrev pub over : What → Bool → Option CheckFault
over what passes = unless passes (TooMany what)

-- the first kind of which there are too many
unfoldable pub size_fault : Chart → Option CheckFault
size_fault c =
    first_some
    (over what.Units (nat_le (length c.units) max_units)
    ∷ over what.Events (nat_le (length c.events) max_events)
    ∷ over what.Vars (nat_le (length c.vars) max_vars)
    ∷ over what.Activities (nat_le (length c.acts) max_acts)
    ∷ over what.States (nat_le (length c.states) max_states)
    ∷ over what.Transitions (nat_le (length c.transitions) max_transitions)
    ∷ over what.Actions (list_all has_few_actions c.transitions)
    ∷ over what.Outputs (list_all has_few_outputs c.acts)
    ∷ over what.Nodes (list_all has_small_exprs c.transitions)
    ∷ [])

-- what a chart within the limits has
pub record AreFew (c : Chart) : Type 0 where
  pub units : length c.units ≤ max_units
  pub events : length c.events ≤ max_events
  pub vars : length c.vars ≤ max_vars
  pub acts : length c.acts ≤ max_acts
  pub states : length c.states ≤ max_states
  pub transitions : length c.transitions ≤ max_transitions
  pub few_actions : list_all has_few_actions c.transitions ≡ true
