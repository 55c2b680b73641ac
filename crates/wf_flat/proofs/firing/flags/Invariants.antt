use Rattle.std.proofs.Common.{◌≡◌, ◌*◌, Bool, map, take}
use Rattle.wf_parts.specs.declared.data.PartTransition.{PartTransition}
use Rattle.wf_parts.specs.Rows.{places}
use Rattle.wf_flat.proofs.firing.flags.Given as goal

abbrev pub invariant-loop-at : goal.invariant-loop-at
invariant-loop-at g l = (test : PartTransition → Bool) → l.among ≡ places (64 * g.row.W) test l.transitions → l.flags.items ≡ map test (take l.at l.transitions)
