use Rattle.wf_world.proofs.Rounds.{one_delivered}
use Rattle.wf_world.proofs.fleet.Fleet.deliver_after.Goals as goal

pub loop-place-preserved : goal.loop-place-preserved
loop-place-preserved c =
    one_delivered c.args.self.now c.loop-place.self c.deliver.new.self c.args.before c.count-place-end.result c.loop-place.place c.in_ok-deliver.field-0 c.loop-place.invariant c.loop-place-test.true c.in_ok-deliver.ensures.led
    c.in_ok-deliver.ensures.wear
