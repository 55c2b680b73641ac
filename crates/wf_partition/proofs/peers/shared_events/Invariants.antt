use Rattle.std.proofs.Common.{◌≡◌, map, filter}
use Rattle.std.specs.List.{range_with_len}
use Rattle.wf_model.specs.Ids.{event_id}
use Rattle.wf_partition.specs.Marked.{are_set}
use Rattle.wf_partition.proofs.peers.shared_events.Given as goal

abbrev pub invariant-loop-k : goal.invariant-loop-k
invariant-loop-k l = l.ids ≡ map event_id (filter (are_set l.held l.known) (range_with_len 0 l.k))
