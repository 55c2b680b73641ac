use Rattle.std.proofs.Common.{arith}
use Rattle.wf_model.proofs.Few.{few_units}
use Rattle.wf_world.specs.declared.fault.ActFault.TheVariants as faults
use Rattle.wf_world.proofs.Results.{handed_on, have_on}
use Rattle.wf_world.proofs.Rounds.{one_exchanged, exchanging_past}
use Rattle.wf_world.proofs.fleet.Fleet.exchange_all.Goals as goal

pub overflow_cast-from : goal.overflow_cast-from
overflow_cast-from c =
    let few = few_units c.args.self.now.chart c.requires.fleet.accepted in
    let count = c.requires.fleet.count in
    let long = c.loop-from.invariant.long in
    let lt = c.loop-from-test.true in
    omega (arith, few, count, long, lt)

pub post_to_all-requires-clause-room : goal.post_to_all-requires-clause-room
post_to_all-requires-clause-room c = have_on c.args.self.now c.loop-from.self c.loop-from.invariant.so_far.worn c.requires.room

pub returns-in_err-post_to_all-clause-over : goal.returns-in_err-post_to_all-clause-over
returns-in_err-post_to_all-clause-over c =
    λ e. exchanging_past c.args.self.now c.loop-from.self c.len-from-end.result c.loop-from.from c.loop-from.invariant.so_far c.loop-from-test.true
    (c.post_to_all.ensures.over (handed_on c.from_residual.result c.post_to_all.result c.in_err-post_to_all.field-0.0 faults.SentLimit c.in_err-post_to_all.was c.from_residual.ensures.1 e))

pub loop-from-preserved : goal.loop-from-preserved
loop-from-preserved c = record {
  so_far = one_exchanged c.args.self.now c.loop-from.self c.post_to_all.new.self c.len-from-end.result c.loop-from.from c.loop-from.invariant.so_far c.loop-from-test.true c.in_ok-post_to_all.ensures.done c.in_ok-post_to_all.ensures.wear;
  long = c.loop-from.invariant.long;
}
