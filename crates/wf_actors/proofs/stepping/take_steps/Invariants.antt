use Rattle.std.proofs.Common.{◌≡◌, ◌⊎◌, ◌<◌, ◌≤◌, ◌+◌, false, length}
use Rattle.std.specs.Prelude.{IfSome}
use Rattle.wf_histories.specs.Histories.{taken}
use Rattle.wf_server.specs.Inbox.{AllCame}
use Rattle.wf_actors.specs.Sendings.{Sends}
use Rattle.wf_actors.specs.Moves.{Moves, IsBelow, TakesTurns}
use Rattle.wf_actors.proofs.stepping.take_steps.Given as goal

abbrev pub invariant-loop-turns : goal.invariant-loop-turns
invariant-loop-turns g l =
    record {
      moves : Moves g.D.Disk.told l.fn.node l.node l.fn.port l.port l.fn.refused l.refused;
      boxes : length l.outboxes ≡ length l.fn.outboxes;
      sent : Sends l.fn.node l.node l.fn.port l.port l.fn.outboxes l.outboxes;
      turned : TakesTurns l.fn.node.past l.node.past;
      most : taken l.node.past ≤ taken l.fn.node.past + l.turns;
      target : IfSome l.fn.target (λ t. taken l.fn.node.past ≤ t → taken l.node.past ≤ t);
      goes : AllCame l.fn.node.part l.fn.node.came → IsBelow l.fn.target (taken l.fn.node.past) → (taken l.fn.node.past < taken l.node.past) ⊎ ((l.turns ≡ 0) × (l.node ≡ l.fn.node));
      working : l.node.journal.failed ≡ false;
    }
