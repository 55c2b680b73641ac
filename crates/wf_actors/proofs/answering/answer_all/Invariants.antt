use Rattle.std.proofs.Common.{◌≡◌, false, length, map}
use Rattle.wf_actors.specs.Answering.{ring_at, KeepsAnswered, KeepsAsked}
use Rattle.wf_actors.specs.Moves.{Admits}
use Rattle.wf_actors.proofs.answering.answer_all.Given as goal

abbrev pub invariant-loop-m : goal.invariant-loop-m
invariant-loop-m g l =
    record {
      admits : Admits g.D.Disk.told l.fn.node l.node;
      len : length l.desks ≡ length l.fn.desks;
      rings : map ring_at l.desks ≡ map ring_at l.fn.desks;
      said : KeepsAnswered l.fn.node.past l.node.past l.fn.desks l.desks;
      some : KeepsAsked l.fn.node.past l.node.past l.fn.desks l.desks;
      working : l.node.journal.failed ≡ false;
    }
