use Rattle.std.proofs.Common.{◌≡◌, false}
use Rattle.wf_exchange.specs.Rings.{ring_out, popped}
use Rattle.wf_actors.specs.Answering.{AnswersMore, AsksMore}
use Rattle.wf_actors.specs.Moves.{Admits}
use Rattle.wf_actors.proofs.answering.answer_desk.Given as goal

abbrev pub invariant-loop : goal.invariant-loop
invariant-loop g l =
    record {
      admits : Admits g.D.Disk.told l.fn.node l.node;
      ring : ring_out l.desk.mouth ≡ ring_out l.fn.desk.mouth;
      said : AnswersMore l.fn.node.past l.node.past (popped l.fn.desk.mouth) (popped l.desk.mouth) l.fn.desk.answers l.desk.answers;
      some : AsksMore l.fn.node.past l.node.past (popped l.fn.desk.mouth) (popped l.desk.mouth);
      working : l.node.journal.failed ≡ false;
    }
