-- Of other calls. What the calls of a unit do to it, beside the machine's answers.
use Rattle.std.specs.Prelude.{◌≡◌, ◌≢◌, ◌⊎◌, ℕ, suc, ◌+◌, ◌<◌, ◌≤◌, ◌==◌, ◌&&◌, Bool, List, length, if◌then◌else◌, Option, Some, None, Ok}
use Rattle.wf_model.specs.declared.update.Update.{Update}
use Rattle.wf_machine.specs.declared.reply.Reply.{Reply}
use Rattle.wf_machine.specs.declared.reply.Reply.TheVariants as reply
use Rattle.wf_machine.specs.Bars.{Bar}
use Rattle.wf_machine.specs.Server.{Works, IsDown, recovered}
use Rattle.wf_machine.specs.Lines.{unless}
use Rattle.wf_machine.specs.Runs.{is_lost, at_end}
use Rattle.wf_histories.specs.Histories.{Admission, taken}
use Rattle.wf_histories.specs.Agreement.{peers}
use Rattle.wf_worlds.specs.Admitting.{lets_in}
use Rattle.wf_worlds.specs.Worlds.{Record, Admits, Turns, stood, gather}
use Rattle.wf_worlds.specs.Ends.{IsShort}
use Rattle.wf_steps.specs.Growing.{place_of}
use Rattle.wf_steps.specs.Fitting.{MayBeReceived}
use Rattle.wf_server.specs.Inbox.{IsPeer}
use Rattle.wf_slot.specs.Slots.{SlotState, held, server}

-- its part stays, and its disk makes at most so many strokes
pub record Goes (most : ℕ) (old new : SlotState) : Type 0 where
  pub part : new.part ≡ old.part
  pub clock : new.clock ≤ old.clock + most

-- what it holds it held before
abbrev pub HoldsLess : SlotState → SlotState → Type 0
HoldsLess old new = (v step : ℕ) (update : Update) → held new v step ≡ Some update → held old v step ≡ Some update

-- WRITES

-- the record stands, and nothing is in doubt
pub record Stands (old : SlotState) (r : Record) (new : SlotState) : Type 0 where
  pub past : new.past ≡ stood r old.past
  pub held : HoldsLess old new
  pub doubt : new.doubt ≡ None

-- its write broke off, and it may stand or not
pub record Breaks (old : SlotState) (r : Record) (new : SlotState) : Type 0 where
  pub past : new.past ≡ old.past
  pub held : HoldsLess old new
  pub doubt : (new.doubt ≡ None) ⊎ (new.doubt ≡ Some r)

-- the admission may follow: its request is new, and the rule lets its outer in, which is short
pub record IsLetIn (old : SlotState) (a : Admission) : Type 0 where
  pub fresh : place_of old.past a.request ≡ None
  pub lets : lets_in old.part old.past a.outer ≡ Ok tt
  pub short : IsShort a.outer

-- nothing was written; or the admission, which was let in
abbrev pub AdmitWrites : SlotState → Admission → SlotState → Type 0
AdmitWrites old a new = (new ≡ old) ⊎ (IsLetIn old a × (Stands old (Admits a) new ⊎ Breaks old (Admits a) new))

-- nothing was written; or the turn that takes in the updates of all peers
abbrev pub TurnWrites : SlotState → SlotState → Type 0
TurnWrites old new =
    (new ≡ old)
    ⊎ ((updates : List Update) × (gather (λ v. held old v (suc (taken old.past))) (peers old.part.units old.part.unit.0) ≡ Some updates)
    × (Stands old (Turns updates) new ⊎ Breaks old (Turns updates) new))

-- the record in doubt doesn't stand, or is in doubt still; or it stands
abbrev pub RecoveryWrites : SlotState → SlotState → Type 0
RecoveryWrites old new =
    ((new.past ≡ old.past) × HoldsLess old new × ((new.doubt ≡ None) ⊎ (new.doubt ≡ old.doubt)))
    ⊎ ((r : Record) × (old.doubt ≡ Some r) × Stands old r new)

-- WHAT COMES

-- it may come: another unit sent it, of one of the next two steps at most, it fits the part, and what is held of its sender and step is the same
pub record MayCome (slot : SlotState) (update : Update) : Type 0 where
  pub peer : IsPeer slot.part update.from.0
  pub near : update.step ≤ taken slot.past + 2
  pub same : (other : Update) → held slot update.from.0 update.step ≡ Some other → other ≡ update
  pub fit : MayBeReceived slot.part update

-- it isn't down, and the step isn't taken; this is held of it
pub record IsNext (slot : SlotState) (update : Update) (there : Option Update) : Type 0 where
  pub up : slot.health ≢ IsDown
  pub later : taken slot.past < update.step
  pub is_held : held slot update.from.0 update.step ≡ there

-- after it the unit holds the update, and of every other unit or step what it held
pub record Comes (old : SlotState) (update : Update) (new : SlotState) : Type 0 where
  pub rest : new ≡ record old { came = new.came; early = new.early }
  pub held : (v step : ℕ) → held new v step ≡ (if (v == update.from.0) && (step == update.step) then Some update else held old v step)

abbrev pub ReceiveAnswers : SlotState → Update → Reply → SlotState → Type 0
ReceiveAnswers old update reply.Down new = (old.health ≡ IsDown) × (new ≡ old)
ReceiveAnswers old update reply.Old new = (old.health ≢ IsDown) × (update.step ≤ taken old.past) × (new ≡ old)
ReceiveAnswers old update reply.Same new = IsNext old update (Some update) × (new ≡ old)
ReceiveAnswers old update reply.Fresh new = IsNext old update None × Comes old update new
ReceiveAnswers old update other new = ⊥

-- RECOVERIES

-- the machine recovers by some outcome of the doubt, and this is the reply
abbrev pub RecoverAnswers : SlotState → Reply → SlotState → Type 0
RecoverAnswers old r new =
    (stands : Bool) × (bar : Option Bar) × (recovered stands (server old) ≡ (bar, server new))
    × (r ≡ unless (reply.Recovered (taken new.past) (length new.past.admissions)) bar)

-- the machine's end of a unit, by some outcome of the doubt: it works, with no arm and nothing in doubt
pub record Ends (old new : SlotState) : Type 0 where
  pub stands : Bool
  pub server : at_end stands (server old) ≡ server new
  pub works : new.health ≡ Works
  pub unarmed : new.fuse ≡ None
  pub certain : new.doubt ≡ None

-- its counts, where it was lost
abbrev pub counts_if_lost : SlotState → SlotState → Option (ℕ × ℕ)
counts_if_lost old new = if is_lost old.health then Some (taken new.past, length new.past.admissions) else None
