use Rattle.std.proofs.Common.{◌+◌, sym, subst, arith}
use Rattle.wf_model.proofs.Few.{few_units}
use Rattle.wf_world.specs.Fleets.{FleetState}
use Rattle.wf_world.specs.declared.fault.ActFault.TheVariants as faults
use Rattle.wf_world.proofs.Results.{handed_on, have_on}
use Rattle.wf_world.proofs.Rounds.{IsPosting, one_skipped, one_posted, posting_past}
use Rattle.wf_world.proofs.fleet.Fleet.post_to_all.Goals as goal
use Rattle.wf_world.proofs.fleet.Fleet.post_to_all.Goals.{then-to-from+in_ok-exchange, else-to-from}

pub overflow_cast-to : goal.overflow_cast-to
overflow_cast-to c =
    let few = few_units c.args.self.now.chart c.requires.fleet.accepted in
    let count = c.requires.fleet.count in
    let long = c.loop-to.invariant.long in
    let lt = c.loop-to-test.true in
    omega (arith, few, count, long, lt)

pub exchange-requires-clause-room : goal.exchange-requires-clause-room
exchange-requires-clause-room c = have_on c.args.self.now c.loop-to.self c.loop-to.invariant.so_far.worn c.requires.room

pub returns-in_err-exchange-clause-over : goal.returns-in_err-exchange-clause-over
returns-in_err-exchange-clause-over c =
    λ e. posting_past c.args.self.now c.loop-to.self c.args.from.0 c.len-to-end.result c.loop-to.to c.loop-to.invariant.so_far c.loop-to-test.true c.if-to-from.true
    (c.exchange.ensures.over (handed_on c.from_residual.result c.exchange.result c.in_err-exchange.field-0.0 faults.SentLimit c.in_err-exchange.was c.from_residual.ensures.1 e))

pub loop-to-preserved : goal.loop-to-preserved
loop-to-preserved c =
    let f = c.args.self.now in
    let g = c.loop-to.self in
    let u = c.args.from.0 in
    let n = c.len-to-end.result in
    let to = c.loop-to.to in
    let so_far = c.loop-to.invariant.so_far in
    let long = c.loop-to.invariant.long in
    elim c.if-to-from.branch [
      | then-to-from+in_ok-exchange w ↦ record {
        so_far = subst (λ (y : FleetState). IsPosting f u n (to + 1) y) (sym w.self-is)
            (one_posted f g w.exchange.new.self u n to so_far c.loop-to-test.true w.if-to-from.true w.in_ok-exchange.ensures.done w.in_ok-exchange.ensures.wear);
        long = long;
      }
      | else-to-from w ↦ record {
        so_far = subst (λ (y : FleetState). IsPosting f u n (to + 1) y) (sym w.self-is) (one_skipped f g u n to so_far c.loop-to-test.true w.if-to-from.false);
        long = long;
      }
    ]
