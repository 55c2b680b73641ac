-- Of other calls. Events by their numbers, for the union of raised events.
use Rattle.std.specs.Prelude.{ℕ, List, map}
use Rattle.wf_model.specs.declared.ids.EventId.{EventId}

abbrev pub numbers_of : List EventId → List ℕ
numbers_of events = map (λ e. e.0) events
