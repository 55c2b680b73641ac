-- Of other calls. What a node holds and took in of all its peers, as their updates come in order.
use Rattle.std.specs.Prelude.{◌≡◌, ℕ, suc, ◌+◌, ◌-◌, ◌<◌, ◌≤◌, Bool, false, List, length, Some, slice_get}
use Rattle.wf_model.specs.declared.update.Update.{Update}
use Rattle.wf_parts.specs.declared.data.PartData.{PartData}
use Rattle.wf_histories.specs.Histories.{taken, inputs_at}
use Rattle.wf_histories.specs.Agreement.{peers}
use Rattle.wf_worlds.specs.Worlds.{gather}
use Rattle.wf_server.specs.Servers.{Server}
use Rattle.wf_server.specs.Inbox.{IsPeer}
use Rattle.wf_actors.specs.Taking.{IsRow, IsFull, ComesMore}

-- what came of each peer is in order, from the peer's first step on
abbrev pub AreRows : PartData → (first : ℕ → ℕ) → (came : ℕ → List Update) → Type 0
AreRows part first came = (v : ℕ) → IsPeer part v → IsRow part v (first v) (came v)

-- and reaches no further than this, for a unit that took so many steps
abbrev pub ReachTo : (reach : ℕ → ℕ → Type 0) → PartData → (first : ℕ → ℕ) → (came : ℕ → List Update) → ℕ → Type 0
ReachTo reach part first came steps = (v : ℕ) → IsPeer part v → reach (first v + length (came v)) steps

-- the Turn to step i + 1 kept of each peer the update of that step that came, in unit order
abbrev pub KeptWhatCame : {D : Type 0} → (first : ℕ → ℕ) → Server D → (came : ℕ → List Update) → ℕ → Type 0
KeptWhatCame first server came i = gather (λ v. slice_get (came v) (suc i - first v)) (peers server.part.units server.part.unit.0) ≡ Some (inputs_at server.past i)

-- of each step to come the server holds of each peer the update that came; each Turn behind the first `opened` ones kept what came of its
-- step; and no update was refused
pub record HasTaken {D : Type 0} (opened : ℕ) (first : ℕ → ℕ) (server : Server D) (came : ℕ → List Update) (refused : Bool) : Type 0 where
  pub full : (v : ℕ) → IsPeer server.part v → IsFull v (first v) server (came v)
  pub turns : (i : ℕ) → opened ≤ i → i < taken server.past → KeptWhatCame first server came i
  pub none : refused ≡ false

-- It has, if what came is in order and reaches no further than this.
abbrev pub WouldHaveTaken : {D : Type 0} → (reach : ℕ → ℕ → Type 0) → ℕ → (first : ℕ → ℕ) → Server D → (came : ℕ → List Update) → Bool → Type 0
WouldHaveTaken reach opened first server came refused =
    AreRows server.part first came → ReachTo reach server.part first came (taken server.past) → HasTaken opened first server came refused

-- MORE CAME, behind what had come; and WHAT CAME BY NOW IS TAKEN IN, if what had come before was. So it is whatever the first steps were, and
-- since whichever Turn.
pub record TakesRows {D : Type 0} (reach : ℕ → ℕ → Type 0) (old new : Server D) (came came_now : ℕ → List Update) (refused refused_now : Bool) : Type 0 where
  pub comes : (v : ℕ) → ComesMore (came v) (came_now v)
  pub takes : (opened : ℕ) (first : ℕ → ℕ) → WouldHaveTaken reach opened first old came refused → WouldHaveTaken reach opened first new came_now refused_now
