use Rattle.std.proofs.Common.{◌≡◌, ◌==◌, map, filter}
use Rattle.std.specs.List.{list_any, range_with_len}
use Rattle.wf_model.specs.Ids.{event_id}
use Rattle.wf_flat.proofs.gathered.ascending_events.Given as goal

abbrev pub invariant-loop-e : goal.invariant-loop-e
invariant-loop-e l = l.events ≡ map event_id (filter (λ e. list_any (λ r. r.0 == e) l.raised) (range_with_len 0 l.e))
