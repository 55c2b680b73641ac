use Rattle.std.proofs.Common.{◌∙◌, ap, map}
use Rattle.std.specs.List.{list_any}
use Rattle.wf_model.specs.Tree.{all_transitions, all_events}
use Rattle.wf_partition.specs.Marked.{triggers_at}
use Rattle.wf_partition.proofs.KnownBits.{bits_made}
use Rattle.wf_partition.proofs.knowing.bits_where.Goals as goal

pub returns : goal.returns
returns c =
    let chart = c.args.chart.now in
    let triggers = c.in_ok-triggers.ensures ∙ ap (λ bits. map (λ m. list_any (triggers_at chart bits m) (all_transitions chart)) (all_events chart)) c.as_slice-2.ensures in
    bits_made c.args.chart.now c.args.unit.0 c.args.concerned c.in_ok-triggers.triggers c.in_ok-states_at.states_at c.in_ok-events_at.events_at c.in_ok-acts_at.acts_at
    c.in_ok-states.states c.in_ok-vars.vars c.in_ok-events.events c.in_ok-acts.acts c.in_ok-seen.seen c.in_ok-held.held
    c.requires c.in_ok-seen.ensures triggers c.in_ok-states_at.ensures c.in_ok-events_at.ensures c.in_ok-acts_at.ensures c.in_ok-held.ensures
    c.in_ok-states.ensures c.in_ok-vars.ensures c.in_ok-events.ensures c.in_ok-acts.ensures
