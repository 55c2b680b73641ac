use Rattle.std.proofs.Common.{take}
use Rattle.std.specs.List.{AllByRecursion}
use Rattle.wf_codec.specs.Ranges.{IsHeldOuter}
use Rattle.wf_slot.proofs.held.keep_outers.Given as goal

abbrev pub invariant-loop-outer : goal.invariant-loop-outer
invariant-loop-outer l = AllByRecursion IsHeldOuter (take l.outer-index l.outers)
