-- The canonical text of a chart.
use Rattle.std.specs.Prelude.{ℕ, ◌++◌, List, drop, flat_map}
use Rattle.wf_model.specs.Limits.{max_depth}
use Rattle.wf_model.specs.declared.chart.Chart.{Chart}
use Rattle.wf_print.specs.Declarations.{chart_line, unit_line, event_line, var_line, activity_line}
use Rattle.wf_print.specs.States.{state_text}
use Rattle.wf_print.specs.Transitions.{transition_line}

-- The chart's own line, its declarations, the root with all states, and the transitions. The first event is `fault`, which
-- needs no declaration.
unfoldable pub chart_text : Chart → List ℕ
chart_text chart =
    chart_line chart ++ flat_map unit_line chart.units ++ flat_map (event_line chart) (drop 1 chart.events)
    ++ flat_map var_line chart.vars ++ flat_map (activity_line chart) chart.acts ++ state_text chart max_depth 0 0
    ++ flat_map (transition_line chart) chart.transitions
