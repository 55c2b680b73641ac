use Rattle.std.proofs.Common.{refl, ◌∙◌, ap}
use Rattle.wf_scopes.proofs.DefaultIn.{flip}
use Rattle.wf_parts.specs.Reads.{may_raise}
use Rattle.wf_partition.proofs.HoldingSteps.{holds_assign, holds_raise, holds_start}
use Rattle.wf_partition.proofs.holding.add_action.Goals as goal

pub returns-in-Assign : goal.returns-in-Assign
returns-in-Assign c =
    holds_assign c.args.action.now c.args.held.now c.mark.new.bits c.mark-in-Assign.new.bits c.in-Assign.x.0 c.mark.ensures c.mark-in-Assign.ensures
    (λ k. rw c.in-Assign.is refl) (λ k. ap (may_raise k) c.in-Assign.is ∙ flip k 0) (λ k. rw c.in-Assign.is refl)

pub returns-in-Raise : goal.returns-in-Raise
returns-in-Raise c =
    holds_raise c.args.action.now c.args.held.now c.mark-in-Raise.new.bits c.in-Raise.event.0 c.mark-in-Raise.ensures
    (λ k. rw c.in-Raise.is refl) (λ k. rw c.in-Raise.is refl) (λ k. rw c.in-Raise.is refl)

pub returns-in-Start : goal.returns-in-Start
returns-in-Start c =
    holds_start c.args.action.now c.args.held.now c.mark-in-Start.new.bits c.in-Start.act.0 c.mark-in-Start.ensures
    (λ k. rw c.in-Start.is refl) (λ k. rw c.in-Start.is refl) (λ k. rw c.in-Start.is refl)
