use Rattle.std.proofs.Common.{◌≡◌, ◌≢◌, ℕ}
use Rattle.wf_exchange.specs.Ports.{SameEnds, SameMouths, ways, popped_from}
use Rattle.wf_actors.specs.Taking.{Anywhere, TakesMore}
use Rattle.wf_actors.proofs.taking.take_in.Given as goal

abbrev pub invariant-loop : goal.invariant-loop
invariant-loop g l =
    record {
      ways : ways l.port ≡ ways l.fn.port;
      ends : (v : ℕ) → SameEnds l.fn.port l.port v;
      others : (v : ℕ) → v ≢ l.peer.0 → SameMouths l.fn.port l.port v;
      more : TakesMore Anywhere l.peer.0 l.fn.node l.node (popped_from l.fn.port l.peer.0) (popped_from l.port l.peer.0) l.fn.refused l.refused;
    }
