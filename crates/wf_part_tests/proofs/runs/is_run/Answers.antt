use Rattle.std.proofs.Common.{IfOk, IsTrue, subst}
use Rattle.wf_semantics.specs.Run.{CentralState}
use Rattle.wf_runs.specs.Runs.{IsRunFrom}
use Rattle.wf_part_tests.proofs.runs.is_run.Goals as goal

pub returns : goal.returns
returns c = subst (λ (s : CentralState). IfOk c.goes_on.result (λ goes. IsTrue goes → IsRunFrom c.args.checked.now s c.args.outer.now)) c.in_ok-state.ensures.state c.goes_on.ensures
