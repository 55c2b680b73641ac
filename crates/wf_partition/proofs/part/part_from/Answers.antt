use Rattle.std.proofs.Common.{◌∙◌, arith, get_or, ap}
use Rattle.wf_model.proofs.Few.{few_units}
use Rattle.wf_partition.proofs.Known.{name_read}
use Rattle.wf_partition.proofs.PartMade.{part_made}
use Rattle.wf_partition.proofs.Shared.{bits_at, unit_there, held_at, concerned_at, states_at, vars_at, events_at, acts_at}
use Rattle.wf_partition.proofs.part.part_from.Goals as goal

pub bounds-all-unit : goal.bounds-all-unit
bounds-all-unit c = unit_there c.args.chart.now c.args.unit.0 c.args.all.now c.requires.all c.requires.within

pub overflow_cast-units : goal.overflow_cast-units
overflow_cast-units c = omega (arith, few_units c.args.chart.now c.requires.accepted)

pub transitions_of-requires-clause-concerned : goal.transitions_of-requires-clause-concerned
transitions_of-requires-clause-concerned c =
    c.as_slice-2.ensures ∙ concerned_at c.args.chart.now c.args.unit.0 c.index-all-unit.result
    (bits_at c.args.chart.now c.args.unit.0 c.args.all.now c.index-all-unit.result c.requires.all (unit_there c.args.chart.now c.args.unit.0 c.args.all.now c.requires.all c.requires.within) c.index-all-unit.is)

pub states_of-requires-clause-known : goal.states_of-requires-clause-known
states_of-requires-clause-known c =
    c.as_slice-3.ensures ∙ states_at c.args.chart.now c.args.unit.0 c.index-all-unit.result
    (bits_at c.args.chart.now c.args.unit.0 c.args.all.now c.index-all-unit.result c.requires.all (unit_there c.args.chart.now c.args.unit.0 c.args.all.now c.requires.all c.requires.within) c.index-all-unit.is)

pub vars_of-requires-clause-known : goal.vars_of-requires-clause-known
vars_of-requires-clause-known c =
    c.as_slice-4.ensures ∙ vars_at c.args.chart.now c.args.unit.0 c.index-all-unit.result
    (bits_at c.args.chart.now c.args.unit.0 c.args.all.now c.index-all-unit.result c.requires.all (unit_there c.args.chart.now c.args.unit.0 c.args.all.now c.requires.all c.requires.within) c.index-all-unit.is)

pub events_of-requires-clause-known : goal.events_of-requires-clause-known
events_of-requires-clause-known c =
    c.as_slice-5.ensures ∙ events_at c.args.chart.now c.args.unit.0 c.index-all-unit.result
    (bits_at c.args.chart.now c.args.unit.0 c.args.all.now c.index-all-unit.result c.requires.all (unit_there c.args.chart.now c.args.unit.0 c.args.all.now c.requires.all c.requires.within) c.index-all-unit.is)

pub acts_of-requires-clause-known : goal.acts_of-requires-clause-known
acts_of-requires-clause-known c =
    c.as_slice-6.ensures ∙ acts_at c.args.chart.now c.args.unit.0 c.index-all-unit.result
    (bits_at c.args.chart.now c.args.unit.0 c.args.all.now c.index-all-unit.result c.requires.all (unit_there c.args.chart.now c.args.unit.0 c.args.all.now c.requires.all c.requires.within) c.index-all-unit.is)

pub peers_of-requires-clause-held : goal.peers_of-requires-clause-held
peers_of-requires-clause-held c =
    held_at c.args.chart.now c.args.unit.0 c.index-all-unit.result
    (bits_at c.args.chart.now c.args.unit.0 c.args.all.now c.index-all-unit.result c.requires.all (unit_there c.args.chart.now c.args.unit.0 c.args.all.now c.requires.all c.requires.within) c.index-all-unit.is)

pub returns : goal.returns
returns c =
    let name = name_read c.args.chart.now c.args.unit.0 c.index-as_slice-unit.result c.requires.within (c.index-as_slice-unit.is ∙ ap (λ l. get_or l c.args.unit.0 c.index-as_slice-unit.result) c.as_slice.ensures) in
    part_made c.args.chart.now c.args.unit.0 c.in_ok-chart_name.chart_name c.in_ok-name.name c.len-units.result c.in_ok-components.components c.in_ok-transitions.transitions c.in_ok-states.states
    c.in_ok-vars.vars c.in_ok-events.events c.in_ok-acts.acts c.in_ok-peers.peers c.in_ok-chart_name.ensures (c.in_ok-name.ensures ∙ name) c.len-units.ensures c.in_ok-components.ensures c.in_ok-transitions.ensures
    c.in_ok-states.ensures c.in_ok-vars.ensures c.in_ok-events.ensures c.in_ok-acts.ensures c.in_ok-peers.ensures
