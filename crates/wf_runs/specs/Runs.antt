-- Of the laws. Runs: lists of steps, each with entries that may come.
use Rattle.std.specs.Prelude.{◌≡◌, true, List, [], ◌∷◌, ⊤}
use Rattle.wf_model.specs.declared.chart.Chart.{Chart}
use Rattle.wf_model.specs.declared.outer.Entry.{Entry}
use Rattle.wf_semantics.specs.Run.{CentralState, first_state, next_state}
use Rattle.wf_semantics.specs.Admission.{may_come}

-- from this state, the entries of each step may come in the state that the steps before lead to
abbrev pub IsRunFrom : Chart → CentralState → List (List Entry) → Type 0
IsRunFrom chart c [] = ⊤
IsRunFrom chart c (entries ∷ more) = (may_come chart c.items entries ≡ true) × IsRunFrom chart (next_state chart c entries) more

abbrev pub IsRun : Chart → List (List Entry) → Type 0
IsRun chart steps = IsRunFrom chart (first_state chart) steps
