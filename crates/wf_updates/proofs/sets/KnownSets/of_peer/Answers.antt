use Rattle.wf_model.specs.declared.ids.StateId.{StateId}
use Rattle.wf_model.specs.declared.ids.VarId.{VarId}
use Rattle.wf_model.specs.declared.ids.EventId.{EventId}
use Rattle.wf_model.specs.declared.ids.ActId.{ActId}
use Rattle.wf_views.specs.Relevant.{is_listed}
use Rattle.wf_updates.proofs.NumberSets.{told, sets_told}
use Rattle.wf_updates.proofs.sets.KnownSets.of_peer.Goals as goal

pub returns : goal.returns
returns c =
    let known = c.args.known.now in
    sets_told (is_listed known) c.in_ok-states.states c.in_ok-vars.vars c.in_ok-events.events c.in_ok-acts.acts
    (told (λ (it : StateId). it.0) known.states c.as_slice.result.now c.in_ok-state_numbers.state_numbers.items c.as_slice-2.result.now c.in_ok-states.states c.as_slice.ensures c.in_ok-state_numbers.ensures c.as_slice-2.ensures.value c.in_ok-states.ensures)
    (told (λ (it : VarId). it.0) known.vars c.as_slice-3.result.now c.in_ok-var_numbers.var_numbers.items c.as_slice-4.result.now c.in_ok-vars.vars c.as_slice-3.ensures c.in_ok-var_numbers.ensures c.as_slice-4.ensures.value c.in_ok-vars.ensures)
    (told (λ (it : EventId). it.0) known.events c.as_slice-5.result.now c.in_ok-event_numbers.event_numbers.items c.as_slice-6.result.now c.in_ok-events.events c.as_slice-5.ensures c.in_ok-event_numbers.ensures c.as_slice-6.ensures.value c.in_ok-events.ensures)
    (told (λ (it : ActId). it.0) known.acts c.as_slice-7.result.now c.in_ok-act_numbers.act_numbers.items c.as_slice-8.result.now c.in_ok-acts.acts c.as_slice-7.ensures c.in_ok-act_numbers.ensures c.as_slice-8.ensures.value c.in_ok-acts.ensures)
