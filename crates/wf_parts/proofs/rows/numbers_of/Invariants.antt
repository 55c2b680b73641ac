use Rattle.std.proofs.Common.{◌≡◌, map, take}
use Rattle.std.specs.List.{range_with_len}
use Rattle.wf_model.specs.Limits.{max_transitions}
use Rattle.wf_parts.specs.Rows.{names}
use Rattle.wf_parts.proofs.rows.numbers_of.Given as goal

abbrev pub invariant-loop-id : goal.invariant-loop-id
invariant-loop-id l = l.numbers ≡ map (names (take l.id-index l.ids)) (range_with_len 0 max_transitions)
