-- Of other calls. What a worker draws and does.
use Rattle.std.specs.Prelude.{◌≡◌, ◌⊎◌, ℕ, ◌+◌, ◌^◌, true, false, List, [], ◌∷◌, ◌++◌, length, Option, Some, None, IsSome, slice_get}
use Rattle.wf_model.specs.declared.ids.ActId.{ActId}
use Rattle.wf_model.specs.declared.outer.Output.{Output}
use Rattle.wf_model.specs.declared.outer.Outer.TheVariants.{Complete}
use Rattle.wf_claims.specs.Seats.{Drawer, IsSeatOf}
use Rattle.wf_exchange.specs.declared.lines.LineItem.{LineItem}
use Rattle.wf_exchange.specs.Rings.{pushed, ring_in}
use Rattle.wf_crew.specs.declared.worker.WorkList.{WorkList}
use Rattle.wf_crew.specs.declared.worker.WorkerActor.{WorkerActor}

-- what completes item n
abbrev pub completion : ActId → List Output → ℕ → LineItem
completion act outputs n = record { request = 2 ^ 62 + n; outer = Complete n act outputs }

abbrev pub waiting_in : Option LineItem → List LineItem
waiting_in None = []
waiting_in (Some item) = item ∷ []

-- all that it handed over, in order
abbrev pub handed : WorkerActor → List LineItem
handed worker = pushed worker.end ++ waiting_in worker.outbox

-- BEFORE A ROUND: its seat is one of the list's claims, of which there is one for each item, and nothing waits
pub record MayWork (list : WorkList) (worker : WorkerActor) : Type 0 where
  pub seat : IsSeatOf list.claims worker.seat
  pub unspent : worker.seat.spent ≡ false
  pub places : list.claims.n ≡ length list.items
  pub none_waits : worker.outbox ≡ None
  pub on : worker.stop ≡ None

-- the item n at the place that is drawn
pub record Draws (list : WorkList) (old new : Drawer) (n : ℕ) : Type 0 where
  pub seat : IsSeatOf list.claims new
  pub place : ℕ
  pub at : slice_get list.items place ≡ Some n
  pub drew : new.drawn ≡ old.drawn ++ place ∷ []

-- none is left
pub record DrawsNone (list : WorkList) (new : Drawer) : Type 0 where
  pub seat : IsSeatOf list.claims new
  pub spent : new.spent ≡ true

-- IN A ROUND it drew an item, and handed over its completion;
pub record DoesOne (list : WorkList) (old new : WorkerActor) : Type 0 where
  pub item : ℕ
  pub draws : Draws list old.seat new.seat item
  pub gave : handed new ≡ handed old ++ completion old.act old.outputs item ∷ []
  pub on : new.stop ≡ None

-- or it found none;
pub record FindsNone (list : WorkList) (old new : WorkerActor) : Type 0 where
  pub draws : DrawsNone list new.seat
  pub gave : handed new ≡ handed old
  pub on : new.stop ≡ None

-- or it found no memory, and drew none
pub record RunsOut (old new : WorkerActor) : Type 0 where
  pub seat : new.seat ≡ old.seat
  pub gave : handed new ≡ handed old
  pub stopped : IsSome new.stop

-- it does the same work still
pub record Works (list : WorkList) (old new : WorkerActor) : Type 0 where
  pub act : new.act ≡ old.act
  pub outputs : new.outputs ≡ old.outputs
  pub ring : ring_in new.end ≡ ring_in old.end
  pub does : DoesOne list old new ⊎ (FindsNone list old new ⊎ RunsOut old new)
