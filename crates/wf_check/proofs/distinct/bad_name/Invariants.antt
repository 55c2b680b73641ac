use Rattle.std.proofs.Common.{◌≡◌}
use Rattle.wf_check.specs.Naming.{texts, bad_name}
use Rattle.wf_check.proofs.Novel.{HasBefore}
use Rattle.wf_check.proofs.GoodNames.{bad_from}
use Rattle.wf_check.proofs.distinct.bad_name.Given as goal

abbrev pub invariant-loop-n : goal.invariant-loop-n
invariant-loop-n l = record {
  rest : bad_name (texts l.names) ≡ bad_from (texts l.names) l.n;
  keys : HasBefore (texts l.names) l.n l.seen.keys;
}
