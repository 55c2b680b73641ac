use Rattle.wf_world.proofs.Closing.{all_work, ends_so}
use Rattle.wf_world.proofs.fleet.Fleet.finish.Goals as goal

pub sights-requires-clause-works : goal.sights-requires-clause-works
sights-requires-clause-works c = all_work c.args.self.now c.finish_all.new.self c.in_ok-recovered.recovered c.in_ok-recovered.ensures

pub returns-clause-ended : goal.returns-clause-ended
returns-clause-ended c =
    ends_so c.args.self.now c.finish_all.new.self c.in_ok-recovered.recovered c.in_ok-sights.sights c.in_ok-merged.merged c.in_ok-recovered.ensures c.in_ok-sights.ensures c.in_ok-merged.ensures
