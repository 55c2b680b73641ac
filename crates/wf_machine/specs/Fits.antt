-- Of the laws. Which lines are lines of a chart: what a script of this chart can say.
use Rattle.std.specs.Prelude.{◌==◌, ◌&&◌, not, nat_lt, nat_le, Bool, true, length}
use Rattle.std.specs.List.{list_all}
use Rattle.wf_model.specs.Limits.{max_int}
use Rattle.wf_model.specs.declared.outer.Outer.{Outer}
use Rattle.wf_model.specs.declared.outer.Outer.TheVariants.{Happen, Complete}
use Rattle.wf_model.specs.declared.chart.Chart.{Chart}
use Rattle.wf_model.specs.Accepted.{is_unit}
use Rattle.wf_machine.specs.declared.line.Line.{Line}
use Rattle.wf_machine.specs.declared.line.Line.TheVariants as line

-- its event, or its activity and variables, are the chart's
abbrev pub is_known_outer : Chart → Outer → Bool
is_known_outer chart (Happen e) = nat_lt e.0 (length chart.events)
is_known_outer chart (Complete n a outputs) = nat_lt a.0 (length chart.acts) && list_all (λ o. nat_lt o.var.0 (length chart.vars)) outputs

-- a line of a script of this chart
unfoldable pub is_line : Chart → Line → Bool
is_line chart (line.Admit u request outer) = is_unit chart u && (nat_le request max_int && is_known_outer chart outer)
is_line chart (line.Turn u) = is_unit chart u
is_line chart (line.Send u v) = is_unit chart u && (is_unit chart v && not (u.0 == v.0))
is_line chart (line.Deliver n) = nat_lt 0 n
is_line chart (line.Crash u outcome) = is_unit chart u
is_line chart (line.Arm u n what) = is_unit chart u && (nat_lt 0 n && nat_le n 1000)
is_line chart (line.Recover u) = is_unit chart u
is_line chart (line.Show u) = is_unit chart u
is_line chart (line.Items u) = is_unit chart u
is_line chart line.Round = true
