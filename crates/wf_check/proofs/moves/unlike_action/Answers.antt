use Rattle.wf_model.specs.Accepted.{is_sorted_action}
use Rattle.wf_check.proofs.Found.{failing_start}
use Rattle.wf_check.proofs.moves.unlike_action.Goals as goal

pub loop-n-init : goal.loop-n-init
loop-n-init c = failing_start (is_sorted_action c.args.chart.now) c.as_slice-actions.result.now
