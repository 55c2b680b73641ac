use Rattle.std.proofs.Common.{◌≡◌, ◌≢◌, ◌<◌, ◌++◌, ℕ, length}
use Rattle.wf_exchange.specs.Ports.{SameEnds, SameMouths, ways, unit_of, pushed_to, popped_from, free_to}
use Rattle.wf_actors.specs.Taking.{Nearby, TakesMore}
use Rattle.wf_actors.proofs.handing.hand_over.Given as goal

abbrev pub invariant-loop-update : goal.invariant-loop-update
invariant-loop-update g l =
    record {
      reader : ways l.reader ≡ ways l.fn.reader;
      sender : ways l.sender ≡ ways l.fn.sender;
      to : l.to.0 ≡ unit_of l.fn.reader;
      more : TakesMore Nearby (unit_of l.fn.sender) l.fn.node l.node (popped_from l.fn.reader (unit_of l.fn.sender)) (popped_from l.reader (unit_of l.fn.sender)) l.fn.refused l.refused;
      all : popped_from l.reader (unit_of l.fn.sender) ≡ pushed_to l.sender (unit_of l.fn.reader);
      room : 0 < free_to l.sender (unit_of l.fn.reader);
      rest : pushed_to l.sender (unit_of l.fn.reader) ++ l.outbox.items ≡ pushed_to l.fn.sender (unit_of l.fn.reader) ++ l.fn.outbox.items;
      reader_others : (v : ℕ) → v ≢ unit_of l.fn.sender → SameMouths l.fn.reader l.reader v;
      reader_ends : (v : ℕ) → SameEnds l.fn.reader l.reader v;
      sender_mouths : (v : ℕ) → SameMouths l.fn.sender l.sender v;
      sender_others : (v : ℕ) → v ≢ unit_of l.fn.reader → pushed_to l.sender v ≡ pushed_to l.fn.sender v;
    }

abbrev pub decreases-loop-update : goal.decreases-loop-update
decreases-loop-update g l = length l.outbox.items
