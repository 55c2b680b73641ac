use Rattle.std.proofs.Common.{length, map, ap, ◌∙◌}
use Rattle.wf_semantics.specs.Configuration.{is_in}
use Rattle.wf_semantics.specs.Walk.{new_tree}
use Rattle.wf_model.proofs.Rows.{row_agree}
use Rattle.wf_central.specs.Passes.{fired_by, moved_by}
use Rattle.wf_central.proofs.Passing.{firing_known, fired_made, moved_made, all_known}
use Rattle.wf_central.proofs.passes.walk.Goals as goal
use Rattle.wf_model.specs.Ids.{trans_id}

pub active_after-requires-clause-known : goal.active_after-requires-clause-known
active_after-requires-clause-known c =
    firing_known c.args.chart.now c.args.ready.now c.as_slice.result.now c.as_slice-3.result.now (c.as_slice.ensures ∙ c.in_ok-chosen.ensures) (c.as_slice-3.ensures ∙ c.in_ok-firing.ensures)

pub returns-clause-walk : goal.returns-clause-walk
returns-clause-walk c = λ tree enabled bits. record {
  fired = c.in_ok-fired.ensures ∙ ap (map trans_id) (fired_made c.args.chart.now c.requires.accepted tree enabled c.args.active.now c.args.ready.now bits
      c.as_slice.result.now c.as_slice-2.result.now (c.as_slice.ensures ∙ c.in_ok-chosen.ensures) (c.as_slice-2.ensures ∙ c.in_ok-firing.ensures));
  active = c.in_ok-active.ensures ∙ row_agree (moved_by c.args.chart.now c.args.active.now c.as_slice-3.result.now) (λ z. is_in z (new_tree c.args.chart.now enabled tree)) (length c.args.chart.now.states)
      (λ z lt. moved_made c.args.chart.now c.requires.accepted tree enabled c.args.active.now c.args.ready.now bits
      c.as_slice.result.now c.as_slice-3.result.now (c.as_slice.ensures ∙ c.in_ok-chosen.ensures) (c.as_slice-3.ensures ∙ c.in_ok-firing.ensures) z lt);
}

pub returns-clause-known : goal.returns-clause-known
returns-clause-known c = all_known c.args.chart.now (fired_by c.args.chart.now c.as_slice-2.result.now) c.in_ok-fired.fired c.in_ok-fired.ensures
