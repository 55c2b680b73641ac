-- Inner. What is answered to an update, before it is given back or kept.
use Rattle.std.specs.Prelude.{◌≡◌, ◌≢◌, Result, Ok, Err}
use Rattle.wf_model.specs.declared.update.Update.{Update}
use Rattle.wf_server.specs.declared.fault.Received.{Received}
use Rattle.wf_server.specs.declared.fault.Received.TheVariants as received
use Rattle.wf_server.specs.declared.fault.ReceiveFault.{ReceiveFault}
use Rattle.wf_server.specs.declared.fault.ReceiveFault.TheVariants as faults
use Rattle.wf_server.specs.declared.node.inbox.Refusal.{Refusal}
use Rattle.wf_server.specs.declared.node.inbox.Refusal.TheVariants as refusals

-- with the update that is answered to
abbrev pub told_of : Result Received Refusal → Update → Result Received ReceiveFault
told_of (Ok received) update = Ok received
told_of (Err refusals.NotPeer) update = Err faults.NotPeer
told_of (Err refusals.TooFar) update = Err (faults.TooFar update.step)
told_of (Err refusals.Clash) update = Err (faults.Clash update)
told_of (Err refusals.Unfit) update = Err faults.Unfit

-- where another one is held: it is the same, or it clashes
abbrev pub SaysOf : Update → Update → Result Received Refusal → Type 0
SaysOf other update (Ok received.Same) = other ≡ update
SaysOf other update (Err refusals.Clash) = other ≢ update
SaysOf other update answer = ⊥
