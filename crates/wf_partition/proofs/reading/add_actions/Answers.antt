use Rattle.std.proofs.Common.{refl, ap, take, take_all}
use Rattle.std.specs.List.{list_any}
use Rattle.wf_parts.specs.Reads.{action_reads}
use Rattle.wf_partition.proofs.Adding.{adds_none, adds_more, adds_same}
use Rattle.wf_partition.proofs.reading.add_actions.Goals as goal

pub loop-action-init : goal.loop-action-init
loop-action-init c = adds_none (λ r. list_any (action_reads r) (take 0 c.args.actions.now)) c.args.reads.now (λ r. refl)

pub loop-action-preserved : goal.loop-action-preserved
loop-action-preserved c =
    adds_more action_reads c.args.actions.now c.loop-action.action-index c.action-item.result c.args.reads.now c.loop-action.reads c.add_action.new.reads c.loop-action-test.true c.action-item.is
    c.loop-action.invariant c.add_action.ensures

pub returns : goal.returns
returns c =
    adds_same (λ r. list_any (action_reads r) (take c.loop-action.action-index c.args.actions.now)) (λ r. list_any (action_reads r) c.args.actions.now) c.args.reads.now c.loop-action.reads c.loop-action.invariant
    (λ r. ap (list_any (action_reads r)) (take_all c.loop-action.action-index c.args.actions.now c.loop-action-test.false))
