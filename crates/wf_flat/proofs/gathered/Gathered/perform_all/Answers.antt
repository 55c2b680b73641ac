use Rattle.wf_flat.specs.Sighted.{shown_by}
use Rattle.wf_flat.proofs.Gathering.{performed_none, performed_more}
use Rattle.wf_flat.proofs.gathered.Gathered.perform_all.Goals as goal

pub loop-place-init : goal.loop-place-init
loop-place-init c = performed_none (shown_by c.args.sight.now).seen c.args.trans.0 0 c.args.self.now

pub loop-place-preserved : goal.loop-place-preserved
loop-place-preserved c =
    performed_more (shown_by c.args.sight.now).seen c.args.trans.0 c.args.actions.now c.loop-place.place c.index-actions-place.result c.args.self.now c.loop-place.self c.perform.new.self
    c.loop-place-test.true c.index-actions-place.is c.loop-place.invariant c.in_ok-perform.ensures
