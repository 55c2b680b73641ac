use Rattle.std.proofs.Common.{◌≡◌, ℕ, length}
use Rattle.wf_exchange.specs.Ports.{ways, SameMouths}
use Rattle.wf_actors.specs.Sendings.{SentUpTo}
use Rattle.wf_actors.proofs.stepping.send_all.Given as goal

abbrev pub invariant-loop-unit : goal.invariant-loop-unit
invariant-loop-unit g l =
    record {
      units : l.units ≡ l.node.part.units;
      boxes : length l.outboxes ≡ length l.fn.outboxes;
      ways : ways l.port ≡ ways l.fn.port;
      mouths : (v : ℕ) → SameMouths l.fn.port l.port v;
      upto : SentUpTo l.node.part l.node.past l.step l.unit l.fn.port l.port l.fn.outboxes l.outboxes;
    }
