use Rattle.std.proofs.Common.{◌≡◌, [], length, map, ◌∙◌, ap, rules}
use Rattle.std.specs.List.{range_with_len}
use Rattle.wf_activities.specs.Completed.{done_by}
use Rattle.wf_activities.proofs.Rows.{row_more}
use Rattle.wf_activities.proofs.Done.{none_done}
use Rattle.wf_activities.proofs.completions.zeros.Goals as goal

pub loop-act-preserved : goal.loop-act-preserved
loop-act-preserved c =
    c.in_ok-push.ensures.items ∙ row_more (done_by c.args.chart.now []) c.loop-act._act-index c.loop-act.counts.items 0 c.loop-act.invariant (none_done c.args.chart.now c.loop-act._act-index)

pub returns : goal.returns
returns c =
    let all : c.loop-act._act-index ≡ length c.args.chart.now.acts = search rules in
    c.loop-act.invariant ∙ ap (λ n. map (done_by c.args.chart.now []) (range_with_len 0 n)) all
