-- What is worked out once for a chart.
use Rattle.std.specs.Prelude.{ℕ, Bool, List, map}
use Rattle.wf_model.specs.declared.ids.StateId.{StateId}
use Rattle.wf_model.specs.declared.chart.Chart.{Chart}
use Rattle.wf_model.specs.Tree.{all_states, all_transitions, ancestors, scope}
use Rattle.wf_model.specs.Ids.{state_id}
use Rattle.wf_semantics.specs.Configuration.{is_in}
use Rattle.wf_semantics.specs.Entry.{entry_tree}

-- the proper ancestors of a state, the lowest first
abbrev pub ancestor_ids : Chart → ℕ → List StateId
ancestor_ids chart s = map state_id (ancestors chart s)

-- for each state, whether it is in the entry tree of transition t
abbrev pub entry_row : Chart → ℕ → List Bool
entry_row chart t = map (λ z. is_in z (entry_tree chart t)) (all_states chart)

-- by state: its ancestors
unfoldable pub lineages_of : Chart → List (List StateId)
lineages_of chart = map (ancestor_ids chart) (all_states chart)

-- by transition: its scope
unfoldable pub scopes_of : Chart → List StateId
scopes_of chart = map (λ t. state_id (scope chart t)) (all_transitions chart)

-- by transition: its entry tree
unfoldable pub entries_of : Chart → List (List Bool)
entries_of chart = map (entry_row chart) (all_transitions chart)

pub record Tables : Type 0 where
  pub lineages : List (List StateId)
  pub scopes : List StateId
  pub entries : List (List Bool)

abbrev pub tables_of : Chart → Tables
tables_of chart =
    record { lineages = lineages_of chart; scopes = scopes_of chart; entries = entries_of chart }
