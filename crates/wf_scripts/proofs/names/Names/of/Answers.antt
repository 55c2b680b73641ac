use Rattle.std.proofs.Common.{ℕ, List, ◌≡◌, ◌∙◌, ap}
use Rattle.std.specs.List.{position_from}
use Rattle.std.specs.Str.{bytes_eq}
use Rattle.wf_model.specs.declared.chart.Activity.{Activity}
use Rattle.wf_model.specs.declared.chart.Event.{Event}
use Rattle.wf_model.specs.declared.chart.Variable.{Variable}
use Rattle.wf_scripts.specs.Names.{found_in, unit_named, event_named, act_named, var_named}
use Rattle.wf_scripts.proofs.names.Names.of.Goals as goal

pub returns : goal.returns
returns c =
    let units : found_in c.in_ok-units.units ≡ unit_named c.args.chart.now =
    c.in_ok-units.ensures ∙ ap (λ (units : List (List ℕ)). λ (name : List ℕ). position_from (λ unit. bytes_eq name unit) 0 units) c.as_slice.ensures in
    let events : found_in c.in_ok-events.events ≡ event_named c.args.chart.now =
    c.in_ok-events.ensures ∙ ap (λ (events : List Event). λ (name : List ℕ). position_from (λ event. bytes_eq name event.name) 0 events) c.as_slice-2.ensures in
    let acts : found_in c.in_ok-acts.acts ≡ act_named c.args.chart.now =
    c.in_ok-acts.ensures ∙ ap (λ (acts : List Activity). λ (name : List ℕ). position_from (λ act. bytes_eq name act.name) 0 acts) c.as_slice-3.ensures in
    let vars : found_in c.in_ok-vars.vars ≡ var_named c.args.chart.now =
    c.in_ok-vars.ensures ∙ ap (λ (vars : List Variable). λ (name : List ℕ). position_from (λ variable. bytes_eq name variable.name) 0 vars) c.as_slice-4.ensures in
    λ i. record { unit = units i; event = events i; act = acts i; var = vars i }
