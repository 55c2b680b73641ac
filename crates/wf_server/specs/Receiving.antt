-- Of other calls. What `receive` answers, by what the server is.
-- The conditions exclude each other.
use Rattle.std.specs.Prelude.{◌≡◌, ◌≢◌, ℕ, ◌+◌, ◌<◌, ◌≤◌, Option, Some, None, Result, Ok, Err}
use Rattle.wf_model.specs.declared.update.Update.{Update}
use Rattle.wf_histories.specs.Histories.{taken}
use Rattle.wf_steps.specs.Fitting.{MayBeReceived}
use Rattle.wf_server.specs.declared.fault.Received.{Received}
use Rattle.wf_server.specs.declared.fault.Received.TheVariants.{Old, Same, Fresh}
use Rattle.wf_server.specs.declared.fault.ReceiveFault.{ReceiveFault}
use Rattle.wf_server.specs.declared.fault.ReceiveFault.TheVariants as faults
use Rattle.wf_server.specs.Servers.{Server, held}
use Rattle.wf_server.specs.Inbox.{IsPeer}

-- another unit of the chart sent it, and this is held of its sender and step
pub record IsNext {D : Type 0} (server : Server D) (update : Update) (there : Option Update) : Type 0 where
  pub peer : IsPeer server.part update.from.0
  pub later : taken server.past < update.step
  pub near : update.step ≤ taken server.past + 2
  pub is_held : held server update.from.0 update.step ≡ there

abbrev pub ReceiveAnswers : {D : Type 0} → Server D → Update → Result Received ReceiveFault → Type 0
ReceiveAnswers server update (Err faults.NotPeer) = IsPeer server.part update.from.0 → ⊥
ReceiveAnswers server update (Ok Old) = IsPeer server.part update.from.0 × (update.step ≤ taken server.past)
ReceiveAnswers server update (Err (faults.TooFar step)) = IsPeer server.part update.from.0 × (taken server.past + 2 < update.step) × (step ≡ update.step)
ReceiveAnswers server update (Ok Same) = IsNext server update (Some update)
ReceiveAnswers server update (Err (faults.Clash given)) = (other : Update) × IsNext server update (Some other) × (other ≢ update) × (given ≡ update)
ReceiveAnswers server update (Err faults.Unfit) = IsNext server update None × (MayBeReceived server.part update → ⊥)
ReceiveAnswers server update (Ok Fresh) = IsNext server update None × MayBeReceived server.part update

-- after it the server holds the update, and of every other unit or step what it held
pub record Holding {D : Type 0} (old new : Server D) (update : Update) : Type 0 where
  pub this : held new update.from.0 update.step ≡ Some update
  pub units : (v step : ℕ) → v ≢ update.from.0 → held new v step ≡ held old v step
  pub steps : (v step : ℕ) → step ≢ update.step → held new v step ≡ held old v step
  pub rest : new ≡ record old { came = new.came; early = new.early }
