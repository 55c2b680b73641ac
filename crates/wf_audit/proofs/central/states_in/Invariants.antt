use Rattle.std.proofs.Common.{◌≡◌, map, filter}
use Rattle.std.specs.List.{range_with_len}
use Rattle.wf_semantics.specs.Configuration.{is_in}
use Rattle.wf_central.specs.Kept.{central_of}
use Rattle.wf_audit.proofs.central.states_in.Given as goal
use Rattle.wf_model.specs.Ids.{state_id}

abbrev pub invariant-loop-s : goal.invariant-loop-s
invariant-loop-s l = l.states ≡ map state_id (filter (λ s. is_in s (central_of l.checked l.central).configuration) (range_with_len 0 l.s))
