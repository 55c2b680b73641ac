-- The line of an accepted chart.
use Rattle.std.specs.Prelude.{ℕ, ◌++◌, List, length}
use Rattle.std.specs.Fmt.{decimal}
use lib.Chars.{codes}
use Rattle.wf_model.specs.declared.chart.Chart.{Chart}

-- how many units, events, variables and activities
abbrev pub declared_counts : Chart → List ℕ
declared_counts chart =
    codes " units " ++ decimal (length chart.units) ++ codes " events " ++ decimal (length chart.events)
    ++ codes " vars " ++ decimal (length chart.vars) ++ codes " activities " ++ decimal (length chart.acts)

-- how many states and transitions
abbrev pub drawn_counts : Chart → List ℕ
drawn_counts chart = codes " states " ++ decimal (length chart.states) ++ codes " transitions " ++ decimal (length chart.transitions)

-- accepted NAME and how many it has of each kind, `fault` among the events
unfoldable pub accepted_line : Chart → List ℕ
accepted_line chart = codes "accepted " ++ chart.name ++ declared_counts chart ++ drawn_counts chart ++ codes "\n"
