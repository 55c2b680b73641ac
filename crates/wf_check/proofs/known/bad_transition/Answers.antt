use Rattle.wf_model.specs.Accepted.{is_known_transition}
use Rattle.wf_check.proofs.Found.{failing_start}
use Rattle.wf_check.proofs.known.bad_transition.Goals as goal

pub loop-t-init : goal.loop-t-init
loop-t-init c = failing_start (is_known_transition c.args.chart.now) c.as_slice-transitions.result.now
