use Rattle.wf_world.specs.declared.fault.ActFault.TheVariants as faults
use Rattle.wf_world.proofs.Results.{handed_on, have_on}
use Rattle.wf_world.proofs.Rounds.{round_leads, round_past}
use Rattle.wf_world.proofs.fleet.Fleet.round.Goals as goal

pub returns-in_err-exchange_all-clause-over : goal.returns-in_err-exchange_all-clause-over
returns-in_err-exchange_all-clause-over c =
    λ e. round_past c.args.self.now
    (c.exchange_all.ensures.over (handed_on c.from_residual.result c.exchange_all.result c.in_err-exchange_all.field-0.0 faults.SentLimit c.in_err-exchange_all.was c.from_residual.ensures.1 e))

pub turn_all-requires-clause-room : goal.turn_all-requires-clause-room
turn_all-requires-clause-room c = have_on c.args.self.now c.exchange_all.new.self c.in_ok-exchange_all.ensures.wear c.requires.room

pub returns-clause-led : goal.returns-clause-led
returns-clause-led c =
    round_leads c.args.self.now c.exchange_all.new.self c.turn_all.new.self c.in_ok-replies.replies c.in_ok-exchange_all.ensures.done c.in_ok-replies.ensures.replies c.in_ok-replies.ensures.done

pub returns-clause-wear : goal.returns-clause-wear
returns-clause-wear c = λ n are. c.in_ok-replies.ensures.wear n (c.in_ok-exchange_all.ensures.wear (λ u. n) are)
