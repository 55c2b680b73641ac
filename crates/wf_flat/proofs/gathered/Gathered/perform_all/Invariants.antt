use Rattle.std.proofs.Common.{◌≡◌, take}
use Rattle.wf_flat.specs.Gathering.{performed}
use Rattle.wf_flat.specs.Sighted.{shown_by}
use Rattle.wf_flat.proofs.gathered.Gathered.perform_all.Given as goal

abbrev pub invariant-loop-place : goal.invariant-loop-place
invariant-loop-place l = l.self ≡ performed (shown_by l.sight).seen l.trans.0 0 (take l.place l.actions) l.initial.self
