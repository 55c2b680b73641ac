use Rattle.std.proofs.Common.{◌≡◌, ◌&&◌, Bool, map, filter, take}
use Rattle.wf_parts.specs.declared.data.PartTransition.{PartTransition}
use Rattle.wf_flat.specs.Gathering.{gathered_of}
use Rattle.wf_flat.specs.Sighted.{shown_by}
use Rattle.wf_flat.proofs.gathered.Gathered.of.Given as goal

abbrev pub invariant-loop-at : goal.invariant-loop-at
invariant-loop-at l = (test : PartTransition → Bool) → l.fires ≡ map test l.transitions
    → l.gathered ≡ gathered_of (shown_by l.sight).seen (filter (λ trans. trans.own && test trans) (take l.at l.transitions))
