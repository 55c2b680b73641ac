use Rattle.std.proofs.Common.{◌∙◌, filter, filter_map, ap, rules}
use Rattle.wf_views.specs.Knowledge.{cut_outer}
use Rattle.wf_updates.specs.Tables.{told_by}
use Rattle.wf_updates.proofs.Cuts.{update_made}
use Rattle.wf_updates.proofs.cut.cut_update.Goals as goal

pub returns : goal.returns
returns c =
    let known = told_by c.args.known.now in
    update_made known c.args.update.now c.in_ok-flips.flips c.in_ok-writes.writes c.in_ok-raised.raised c.in_ok-starts.starts _ c.in_ok-outer.outer
    (c.in_ok-flips.ensures ∙ ap (filter (λ s. known.states s.0)) c.as_slice.ensures)
    (c.in_ok-writes.ensures ∙ ap (filter (λ write. known.vars write.var.0)) c.as_slice-2.ensures)
    (c.in_ok-raised.ensures ∙ ap (filter (λ e. known.events e.0)) c.as_slice-3.ensures)
    (c.in_ok-starts.ensures ∙ ap (filter (λ start. known.acts start.act.0)) c.as_slice-4.ensures)
    (search rules)
    (c.in_ok-outer.ensures ∙ ap (filter_map (cut_outer known)) c.as_slice-5.ensures)
