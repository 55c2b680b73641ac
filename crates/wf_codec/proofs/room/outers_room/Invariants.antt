use Rattle.std.proofs.Common.{◌≡◌, ◌≤◌, ◌*◌, length, take}
use Rattle.std.specs.List.{flat_map, AllByRecursion}
use Rattle.wf_codec.specs.declared.room.TheConstants.{OUTER}
use Rattle.wf_codec.specs.Spelling.{outer_spelling}
use Rattle.wf_codec.specs.Ranges.{IsHeldOuter}
use Rattle.wf_codec.proofs.room.outers_room.Given as goal

abbrev pub invariant-loop-outer : goal.invariant-loop-outer
invariant-loop-outer l = record {
  so_far : l.room ≡ length (flat_map outer_spelling (take l.outer-index l.outers));
  bound : l.room ≤ OUTER * l.outer-index;
  held : AllByRecursion IsHeldOuter (take l.outer-index l.outers);
}
