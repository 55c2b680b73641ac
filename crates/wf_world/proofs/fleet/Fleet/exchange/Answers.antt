use Rattle.std.proofs.Common.{◌≡◌, ◌+◌, ◌-◌, ℕ, length, ap, ◌∙◌, subst}
use Rattle.std.specs.List.{range_with_len}
use Rattle.wf_machine.specs.Lines.{after_delivery}
use Rattle.wf_world.specs.declared.fault.ActFault.TheVariants as faults
use Rattle.wf_world.specs.Fleets.{FleetState, machine_at, Comes}
use Rattle.wf_world.proofs.Results.{handed_on}
use Rattle.wf_world.proofs.Rounds.{exchanged, exchange_past}
use Rattle.wf_world.proofs.fleet.Fleet.exchange.Goals as goal

pub returns-in_err-send-clause-over : goal.returns-in_err-send-clause-over
returns-in_err-send-clause-over c =
    λ e. exchange_past c.args.self.now c.args.from.0 c.args.to.0 (c.send.ensures.over (handed_on c.from_residual.result c.send.result c.in_err-send.field-0.0 faults.SentLimit c.in_err-send.was c.from_residual.ensures.1 e))

pub returns-clause-done : goal.returns-clause-done
returns-clause-done c =
    let f = c.args.self.now in
    let g = c.send.new.self in
    let k = c.deliver_after.new.self in
    let before : c.count-before.result ≡ length f.messages = c.count-before.ensures.count ∙ ap (λ (y : FleetState). length y.messages) c.self.view_is in
    exchanged f g k c.args.from c.args.to c.in_ok-send.field-0 c.in_ok-send.ensures.led
    (subst (λ (n : ℕ). Comes g (after_delivery (machine_at g) (range_with_len (n + 1) (length g.messages - n))) k) before c.in_ok-deliver_after.ensures.done)

pub returns-clause-wear : goal.returns-clause-wear
returns-clause-wear c = λ n are. c.in_ok-deliver_after.ensures.wear n (c.in_ok-send.ensures.wear n are)
