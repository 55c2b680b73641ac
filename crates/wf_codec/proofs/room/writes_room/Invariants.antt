use Rattle.std.proofs.Common.{◌≡◌, ◌≤◌, ◌*◌, length, take}
use Rattle.std.specs.List.{flat_map, AllByRecursion}
use Rattle.wf_codec.specs.declared.room.TheConstants.{WRITE}
use Rattle.wf_codec.specs.Spelling.{write_spelling}
use Rattle.wf_codec.specs.Ranges.{IsHeldValue}
use Rattle.wf_codec.proofs.room.writes_room.Given as goal

abbrev pub invariant-loop-write : goal.invariant-loop-write
invariant-loop-write l = record {
  so_far : l.room ≡ length (flat_map write_spelling (take l.write-index l.writes));
  bound : l.room ≤ WRITE * l.write-index;
  held : AllByRecursion (λ w. IsHeldValue w.val) (take l.write-index l.writes);
}
