-- The part of a unit, by its lists.
use Rattle.std.proofs.Common.{◌≡◌, ℕ, List, [], length, map, filter}
use Rattle.std.specs.List.{slice_get}
use Rattle.std.specs.Option.{option_map_or}
use Rattle.wf_model.specs.declared.chart.Chart.{Chart}
use Rattle.wf_model.specs.Ids.{unit_id}
use Rattle.wf_model.specs.Tree.{all_states}
use Rattle.wf_parts.specs.declared.data.Component.{Component}
use Rattle.wf_parts.specs.declared.data.PartTransition.{PartTransition}
use Rattle.wf_parts.specs.declared.data.KnownState.{KnownState}
use Rattle.wf_parts.specs.declared.data.KnownVariable.{KnownVariable}
use Rattle.wf_parts.specs.declared.data.KnownEvent.{KnownEvent}
use Rattle.wf_parts.specs.declared.data.KnownActivity.{KnownActivity}
use Rattle.wf_parts.specs.declared.data.Known.{Known}
use Rattle.wf_parts.specs.declared.data.PartData.{PartData}
use Rattle.wf_parts.specs.Components.{component_of}
use Rattle.wf_parts.specs.Known.{is_state_of, concerns, knows_state, knows_var, knows_event, knows_act}
use Rattle.wf_parts.specs.Peers.{peers_of}
use Rattle.wf_parts.specs.Parts.{numbered, part_transition, known_state, known_variable, known_event, known_activity, part_of}

abbrev pub the_part : List ℕ → List ℕ → ℕ → ℕ → List Component → List PartTransition → List KnownState → List KnownVariable → List KnownEvent → List KnownActivity → List Known → PartData
the_part chart name u units components transitions states vars events acts peers =
    record {
      chart = chart;
      name = name;
      unit = unit_id u;
      units = units;
      components = components;
      transitions = transitions;
      states = states;
      vars = vars;
      events = events;
      acts = acts;
      peers = peers;
    }

pub part_made : (chart : Chart) (u : ℕ) (of name : List ℕ) (units : ℕ) (components : List Component) (transitions : List PartTransition) (states : List KnownState)
    (vars : List KnownVariable) (events : List KnownEvent) (acts : List KnownActivity) (peers : List Known)
    → of ≡ chart.name → name ≡ option_map_or (λ n. n) (slice_get chart.units u) [] → units ≡ length chart.units
    → components ≡ map (component_of chart) (filter (is_state_of chart u) (all_states chart))
    → transitions ≡ map (part_transition chart u) (numbered (concerns chart u) chart.transitions)
    → states ≡ map (known_state chart) (numbered (knows_state chart u) chart.states)
    → vars ≡ map known_variable (numbered (knows_var chart u) chart.vars)
    → events ≡ map known_event (numbered (knows_event chart u) chart.events)
    → acts ≡ map (known_activity chart u) (numbered (knows_act chart u) chart.acts)
    → peers ≡ peers_of chart u
    → the_part of name u units components transitions states vars events acts peers ≡ part_of chart u
unfolding part_of
part_made chart u of name units components transitions states vars events acts peers o n us c t s x e a p =
    λ i. record {
      chart = o i;
      name = n i;
      unit = unit_id u;
      units = us i;
      components = c i;
      transitions = t i;
      states = s i;
      vars = x i;
      events = e i;
      acts = a i;
      peers = p i;
    }
