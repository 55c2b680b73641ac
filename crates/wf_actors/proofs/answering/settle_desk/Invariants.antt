use Rattle.std.proofs.Common.{◌≡◌, ◌-◌, false, length}
use Rattle.wf_exchange.specs.Rings.{ring_in, ring_out, pushed, popped}
use Rattle.wf_actors.specs.Answering.{AnswersMore, AsksMore}
use Rattle.wf_actors.specs.Moves.{Admits}
use Rattle.wf_actors.proofs.answering.settle_desk.Given as goal

abbrev pub invariant-loop-item : goal.invariant-loop-item
invariant-loop-item g l =
    record {
      admits : Admits g.D.Disk.told l.fn.node l.node;
      ring : ring_out l.desk.mouth ≡ ring_out l.fn.desk.mouth;
      end : (ring_in l.end ≡ ring_in l.fn.end) × (pushed l.end ≡ pushed l.fn.end);
      said : AnswersMore l.fn.node.past l.node.past (popped l.fn.desk.mouth) (popped l.desk.mouth) l.fn.desk.answers l.desk.answers;
      some : AsksMore l.fn.node.past l.node.past (popped l.fn.desk.mouth) (popped l.desk.mouth);
      working : l.node.journal.failed ≡ false;
    }

abbrev pub decreases-loop-item : goal.decreases-loop-item
decreases-loop-item g l = length (pushed l.fn.end) - length (popped l.desk.mouth)
