use Rattle.std.proofs.Common.{arith}
use Rattle.wf_central.specs.Kept.{central_of}
use Rattle.wf_part_tests.proofs.runs.step_if_run.Goals as goal

pub step-requires-clause-few : goal.step-requires-clause-few
unfolding central_of
step-requires-clause-few c = omega (arith, c.taken.ensures c.args.checked.now)
