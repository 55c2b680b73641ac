use Rattle.std.proofs.Common.{◌≡◌, ◌≤◌, ◌*◌, length, take}
use Rattle.std.specs.List.{flat_map, AllByRecursion}
use Rattle.wf_codec.specs.declared.room.TheConstants.{OUTPUT}
use Rattle.wf_codec.specs.Spelling.{output_spelling}
use Rattle.wf_codec.specs.Ranges.{IsHeldValue}
use Rattle.wf_codec.proofs.room.outputs_room.Given as goal

abbrev pub invariant-loop-output : goal.invariant-loop-output
invariant-loop-output l = record {
  so_far : l.room ≡ length (flat_map output_spelling (take l.output-index l.outputs));
  bound : l.room ≤ OUTPUT * l.output-index;
  held : AllByRecursion (λ o. IsHeldValue o.val) (take l.output-index l.outputs);
}
