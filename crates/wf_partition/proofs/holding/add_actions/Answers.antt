use Rattle.std.proofs.Common.{refl, ap, take, take_all}
use Rattle.std.specs.List.{list_any}
use Rattle.wf_partition.proofs.HoldingSteps.{holds_none, holds_more, holds_same}
use Rattle.wf_partition.proofs.holding.add_actions.Goals as goal

pub loop-action-init : goal.loop-action-init
loop-action-init c = holds_none (λ t. list_any t (take 0 c.args.actions.now)) c.args.held.now (λ t. refl)

pub loop-action-preserved : goal.loop-action-preserved
loop-action-preserved c =
    holds_more c.args.actions.now c.loop-action.action-index c.action-item.result c.args.held.now c.loop-action.held c.add_action.new.held c.loop-action-test.true c.action-item.is
    c.loop-action.invariant c.add_action.ensures

pub returns : goal.returns
returns c =
    holds_same (λ t. list_any t (take c.loop-action.action-index c.args.actions.now)) (λ t. list_any t c.args.actions.now) c.args.held.now c.loop-action.held c.loop-action.invariant
    (λ t. ap (list_any t) (take_all c.loop-action.action-index c.args.actions.now c.loop-action-test.false))
