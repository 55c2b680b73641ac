use Rattle.std.proofs.Common.{◌≡◌, ◌≤◌, ◌*◌, length, take}
use Rattle.std.specs.List.{flat_map, AllByRecursion}
use Rattle.wf_codec.specs.declared.room.TheConstants.{MAX_SPELLING}
use Rattle.wf_codec.specs.Spelling.{spelling_of}
use Rattle.wf_codec.specs.Ranges.{IsHeld}
use Rattle.wf_codec.proofs.room.updates_room.Given as goal

abbrev pub invariant-loop-update : goal.invariant-loop-update
invariant-loop-update l = record {
  so_far : l.room ≡ length (flat_map spelling_of (take l.update-index l.updates));
  bound : l.room ≤ MAX_SPELLING * l.update-index;
  held : AllByRecursion IsHeld (take l.update-index l.updates);
}
