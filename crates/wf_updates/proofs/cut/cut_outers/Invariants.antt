use Rattle.std.proofs.Common.{◌≡◌, filter_map, take}
use Rattle.wf_views.specs.Knowledge.{cut_outer}
use Rattle.wf_updates.specs.Tables.{told_by}
use Rattle.wf_updates.proofs.cut.cut_outers.Given as goal

abbrev pub invariant-loop-outer : goal.invariant-loop-outer
invariant-loop-outer l = l.cut ≡ filter_map (cut_outer (told_by l.known)) (take l.outer-index l.outers)
