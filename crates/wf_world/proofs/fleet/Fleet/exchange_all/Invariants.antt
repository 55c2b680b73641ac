use Rattle.std.proofs.Common.{◌≡◌, length}
use Rattle.wf_world.proofs.Rounds.{IsExchanging}
use Rattle.wf_world.proofs.fleet.Fleet.exchange_all.Given as goal

abbrev pub invariant-loop-from : goal.invariant-loop-from
invariant-loop-from l = record { so_far : IsExchanging l.fn.self l.from-end l.from l.self; long : l.from-end ≡ length l.fn.self.slots }
