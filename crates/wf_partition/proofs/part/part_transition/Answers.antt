use Rattle.std.proofs.Common.{◌∙◌, arith, length, get_or, ap}
use Rattle.wf_partition.proofs.Known.{own_read, blockers_len, blockers_at, transition_made}
use Rattle.wf_partition.proofs.part.part_transition.Goals as goal

pub bounds-as_slice-t : goal.bounds-as_slice-t
bounds-as_slice-t c = omega (arith, blockers_len c.args.chart.now c.args.flat.now c.requires.flat, c.requires.within, ap length c.as_slice.ensures)

pub returns : goal.returns
returns c =
    let chart = c.args.chart.now in
    let t = c.args.t.0 in
    let blockers = c.index-as_slice-t.result in
    transition_made chart c.args.unit.0 t c.args.transition.now c.in_ok-guard.guard c.in_ok-blockers.blockers c.is_state_of-own.result c.in_ok-actions.actions c.in_ok-guard.ensures
    (c.in_ok-blockers.ensures ∙ blockers_at chart c.args.flat.now t blockers c.requires.flat c.requires.within (c.index-as_slice-t.is ∙ ap (λ l. get_or l t blockers) c.as_slice.ensures))
    (c.is_state_of-own.ensures ∙ own_read chart c.args.unit.0 t c.args.transition.now.source.0 c.requires.source) c.in_ok-actions.ensures
