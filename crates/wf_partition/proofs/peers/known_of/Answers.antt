use Rattle.wf_partition.proofs.Shared.{known_made, few_held_states, few_held_vars, few_held_events, few_held_acts}
use Rattle.wf_partition.proofs.peers.known_of.Goals as goal

pub shared_states-requires : goal.shared_states-requires
shared_states-requires c = few_held_states c.args.chart.now c.requires.accepted c.args.unit.0 c.args.held.now c.requires.held

pub shared_vars-requires : goal.shared_vars-requires
shared_vars-requires c = few_held_vars c.args.chart.now c.requires.accepted c.args.unit.0 c.args.held.now c.requires.held

pub shared_events-requires : goal.shared_events-requires
shared_events-requires c = few_held_events c.args.chart.now c.requires.accepted c.args.unit.0 c.args.held.now c.requires.held

pub shared_acts-requires : goal.shared_acts-requires
shared_acts-requires c = few_held_acts c.args.chart.now c.requires.accepted c.args.unit.0 c.args.held.now c.requires.held

pub returns : goal.returns
returns c =
    known_made c.args.chart.now c.args.unit.0 c.args.v.0 c.args.held.now c.args.peer.now c.in_ok-states.states c.in_ok-vars.vars c.in_ok-events.events c.in_ok-acts.acts c.requires.held c.requires.peer
    c.in_ok-states.ensures c.in_ok-vars.ensures c.in_ok-events.ensures c.in_ok-acts.ensures
