-- What a unit's updates may hold, and what of that each peer knows.
use Rattle.std.specs.Prelude.{ℕ, ◌==◌, ◌||◌, ◌&&◌, not, Bool, List, map, filter, length}
use Rattle.std.specs.List.{list_any, range_with_len}
use Rattle.wf_model.specs.declared.chart.Transition.{Transition}
use Rattle.wf_model.specs.declared.chart.Chart.{Chart}
use Rattle.wf_model.specs.Tree.{all_states, all_transitions, all_events, all_acts}
use Rattle.wf_model.specs.Ids.{unit_id, state_id, var_id, event_id, act_id}
use Rattle.wf_semantics.specs.Admission.{is_event_at, is_act_at}
use Rattle.wf_parts.specs.declared.data.Known.{Known}
use Rattle.wf_parts.specs.Reads.{assigns, may_raise, may_start}
use Rattle.wf_parts.specs.Known.{is_state_of, is_own, is_such, has_output, knows_state, knows_var, knows_event, knows_act}

-- which states, variables, events and activities, by their numbers
pub record Knowledge : Type 0 where
  pub states : ℕ → Bool
  pub vars : ℕ → Bool
  pub events : ℕ → Bool
  pub acts : ℕ → Bool

-- one of u's own transitions is so
abbrev pub has_own : Chart → ℕ → (Transition → Bool) → Bool
has_own chart u test = list_any (λ t. is_own chart u t && is_such test chart t) (all_transitions chart)

-- what u's updates may hold: its states; the variables that its own transitions assign, and the outputs of its activities; the events at it,
-- and those that its own transitions may raise; the activities at it, and those that its own transitions may start
abbrev pub held_by : Chart → ℕ → Knowledge
held_by chart u =
    record {
      states = is_state_of chart u;
      vars = λ x. has_own chart u (assigns x) || list_any (λ a. is_act_at chart u a && has_output chart x a) (all_acts chart);
      events = λ e. is_event_at chart u e || has_own chart u (λ trans. list_any (may_raise e) trans.actions);
      acts = λ a. is_act_at chart u a || has_own chart u (λ trans. list_any (may_start a) trans.actions);
    }

-- what its peer v knows of that
abbrev pub known_of : Chart → ℕ → ℕ → Known
known_of chart u v =
    record {
      unit = unit_id v;
      states = map state_id (filter (λ s. (held_by chart u).states s && knows_state chart v s) (all_states chart));
      vars = map var_id (filter (λ x. (held_by chart u).vars x && knows_var chart v x) (range_with_len 0 (length chart.vars)));
      events = map event_id (filter (λ e. (held_by chart u).events e && knows_event chart v e) (all_events chart));
      acts = map act_id (filter (λ a. (held_by chart u).acts a && knows_act chart v a) (all_acts chart));
    }

-- for each peer, in unit order
unfoldable pub peers_of : Chart → ℕ → List Known
peers_of chart u = map (known_of chart u) (filter (λ v. not (v == u)) (range_with_len 0 (length chart.units)))
