use Rattle.std.proofs.Common.{arith, ap, length, length-drop}
use Rattle.std.specs.Prelude.{sum}
use Rattle.wf_histories.specs.Histories.{seals}
use Rattle.wf_steps.proofs.replica.Replica.next_sealed.Goals as goal

pub returns : goal.returns
returns c = omega (arith, ap length c.pending_admissions.ensures, length-drop (sum (seals c.args.self.now.past)) c.args.self.now.past.admissions)
