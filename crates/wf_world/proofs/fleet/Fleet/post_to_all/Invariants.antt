use Rattle.std.proofs.Common.{◌≡◌, length}
use Rattle.wf_world.proofs.Rounds.{IsPosting}
use Rattle.wf_world.proofs.fleet.Fleet.post_to_all.Given as goal

abbrev pub invariant-loop-to : goal.invariant-loop-to
invariant-loop-to l = record { so_far : IsPosting l.fn.self l.from.0 l.to-end l.to l.self; long : l.to-end ≡ length l.fn.self.slots }
