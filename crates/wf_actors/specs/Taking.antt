-- Of other calls. What a node holds of a peer whose updates come in order.
use Rattle.std.specs.Prelude.{◌≡◌, ◌≢◌, ℕ, ◌+◌, ◌-◌, ◌<◌, ◌≤◌, Bool, false, List, ◌++◌, length, Some, None, slice_get}
use Rattle.wf_model.specs.declared.update.Update.{Update}
use Rattle.wf_parts.specs.declared.data.PartData.{PartData}
use Rattle.wf_histories.specs.Histories.{taken}
use Rattle.wf_server.specs.Servers.{Server, held}
use Rattle.wf_steps.specs.Fitting.{MayBeReceived}
use Rattle.wf_server.specs.Inbox.{IsPeer, IsUpdateOf}

-- updates of peer v for one step after the other, from the first one on, each of which may be received
abbrev pub IsRow : PartData → ℕ → ℕ → List Update → Type 0
IsRow part v first came = (k : ℕ) (x : Update) → slice_get came k ≡ Some x → IsUpdateOf part v (first + k) x

-- of each step to come the server holds the update that came
pub record IsFull {D : Type 0} (v first : ℕ) (server : Server D) (came : List Update) : Type 0 where
  pub from : first ≤ taken server.past + 1
  pub most : first + length came ≤ taken server.past + 3
  pub each : (s : ℕ) → taken server.past < s → held server v s ≡ slice_get came (s - first)

-- ONE UPDATE that may be received. `old_one`: of a step that was taken, nothing changes. `fresh`: of one of the next two steps, of which
-- none is held, it is held. Neither is refused, and of other units and steps it holds the same.
pub record Receives {D : Type 0} (old new : Server D) (x : Update) (refused refused_now : Bool) : Type 0 where
  pub old_one : x.step ≤ taken old.past → (refused_now ≡ refused) × ((v s : ℕ) → held new v s ≡ held old v s)
  pub fresh : taken old.past < x.step → x.step ≤ taken old.past + 2 → held old x.from.0 x.step ≡ None → (refused_now ≡ refused) × (held new x.from.0 x.step ≡ Some x)
  pub others : (v s : ℕ) → (v ≡ x.from.0 → s ≢ x.step) → held new v s ≡ held old v s

-- what is held stays
abbrev pub KeepsHeld : {D : Type 0} → (old new : Server D) → Type 0
KeepsHeld old new = (v s : ℕ) (x : Update) → held old v s ≡ Some x → held new v s ≡ Some x

-- one that comes
pub record TakesOne {D : Type 0} (old new : Server D) (x : Update) (refused refused_now : Bool) : Type 0 where
  pub rest : new ≡ record old { came = new.came; early = new.early }
  pub stays : KeepsHeld old new
  pub receives : IsPeer old.part x.from.0 → MayBeReceived old.part x → Receives old new x refused refused_now

-- of every other unit it holds the same
abbrev pub KeepsOthers : {D : Type 0} → ℕ → (old new : Server D) → Type 0
KeepsOthers v old new = (u s : ℕ) → u ≢ v → held new u s ≡ held old u s

-- What came of peer v since `base` was taken in: the server holds of each step to come the update that came, and of every other unit what
-- it held; and no update was refused.
pub record TookIn {D : Type 0} (v first : ℕ) (base server : Server D) (came : List Update) (refused : Bool) : Type 0 where
  pub full : IsFull v first server came
  pub others : KeepsOthers v base server
  pub none : refused ≡ false

-- It was, if what came is a row that reaches no further than this.
abbrev pub WouldTakeIn : {D : Type 0} → (ℕ → ℕ → Type 0) → ℕ → ℕ → (base server : Server D) → List Update → Bool → Type 0
WouldTakeIn reach v first base server came refused =
    IsRow server.part v first came → reach (first + length came) (taken server.past) → TookIn v first base server came refused

-- behind what had come, more came
abbrev pub ComesMore : (came came_now : List Update) → Type 0
ComesMore came came_now = (more : List Update) × (came_now ≡ came ++ more)

-- MORE CAME of peer v. Whatever was the first step, and since when: if what had come was taken in, then all that has come by now is.
pub record TakesMore {D : Type 0} (reach : ℕ → ℕ → Type 0) (v : ℕ) (old new : Server D) (came came_now : List Update) (refused refused_now : Bool) : Type 0 where
  pub rest : new ≡ record old { came = new.came; early = new.early }
  pub stays : KeepsHeld old new
  pub comes : ComesMore came came_now
  pub takes : (first : ℕ) (base : Server D) → WouldTakeIn reach v first base old came refused → WouldTakeIn reach v first base new came_now refused_now

-- no bound
abbrev pub Anywhere : ℕ → ℕ → Type 0
Anywhere behind steps = Unit {0}

-- no further than the update of the second next step
abbrev pub Nearby : ℕ → ℕ → Type 0
Nearby behind steps = behind ≤ steps + 3
