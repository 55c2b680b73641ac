use Rattle.std.proofs.Common.{◌≡◌, map, take}
use Rattle.wf_views.specs.Views.{first_view}
use Rattle.wf_flat.proofs.lock.first_views.Given as goal

abbrev pub invariant-loop-part : goal.invariant-loop-part
invariant-loop-part l = l.views.items ≡ map first_view (take l.part-index l.parts)
