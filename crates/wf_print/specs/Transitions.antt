-- The lines of transitions.
use Rattle.std.specs.Prelude.{ℕ, ◌++◌, List, Option}
use lib.Chars.{codes}
use Rattle.wf_model.specs.declared.ids.EventId.{EventId}
use Rattle.wf_model.specs.declared.expr.Expr.{Expr}
use Rattle.wf_model.specs.declared.chart.Chart.{Chart}
use Rattle.wf_model.specs.declared.chart.Transition.{Transition}
use Rattle.wf_model.specs.declared.chart.Action.{Action}
use Rattle.wf_model.specs.declared.chart.Action.TheVariants as act
use Rattle.wf_model.specs.Tree.{list_from}
use Rattle.wf_words.specs.Names.{state_name, event_name, var_name, act_name}
use Rattle.wf_print.specs.Words.{listed}
use Rattle.wf_print.specs.Expressions.{expr_text}

-- VAR := expr | raise EVENT | start ACTIVITY
abbrev pub action_text : Chart → Action → List ℕ
action_text chart (act.Assign x value) = var_name chart x ++ codes " := " ++ expr_text chart value
action_text chart (act.Raise event) = codes "raise " ++ event_name chart event
action_text chart (act.Start a) = codes "start " ++ act_name chart a

-- from STATE to STATE
abbrev pub ends : Chart → Transition → List ℕ
ends chart t = codes "from " ++ state_name chart t.source ++ codes " to " ++ state_name chart t.target

-- on EVENT
abbrev pub trigger : Chart → Option EventId → List ℕ
trigger chart event = list_from (λ e. codes " on " ++ event_name chart e) event

-- if expr
abbrev pub condition : Chart → Option Expr → List ℕ
condition chart guard = list_from (λ x. codes " if " ++ expr_text chart x) guard

-- from STATE to STATE [ on EVENT ] [ if expr ] [ do action { , action } ] ;
unfoldable pub transition_line : Chart → Transition → List ℕ
transition_line chart t =
    ends chart t ++ trigger chart t.event ++ condition chart t.guard ++ listed (codes " do ") (action_text chart) t.actions ++ codes ";\n"
