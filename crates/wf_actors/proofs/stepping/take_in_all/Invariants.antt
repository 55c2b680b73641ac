use Rattle.std.proofs.Common.{◌≡◌, ℕ}
use Rattle.wf_exchange.specs.Ports.{ways, popped_from, SameEnds}
use Rattle.wf_actors.specs.Taking.{Anywhere, KeepsHeld}
use Rattle.wf_actors.specs.Peers.{TakesRows}
use Rattle.wf_actors.proofs.stepping.take_in_all.Given as goal

abbrev pub invariant-loop-unit : goal.invariant-loop-unit
invariant-loop-unit g l =
    record {
      units : l.units ≡ l.fn.node.part.units;
      ways : ways l.port ≡ ways l.fn.port;
      ends : (v : ℕ) → SameEnds l.fn.port l.port v;
      rest : l.node ≡ record l.fn.node { came = l.node.came; early = l.node.early };
      stays : KeepsHeld l.fn.node l.node;
      rows : TakesRows Anywhere l.fn.node l.node (popped_from l.fn.port) (popped_from l.port) l.fn.refused l.refused;
    }
