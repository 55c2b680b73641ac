use Rattle.std.proofs.Common.{◌+◌, ◌-◌, ◌≤◌, length}
use Rattle.wf_exchange.specs.Rings.{free}
use Rattle.wf_crew.specs.Clients.{SendsOn}
use Rattle.wf_crew.proofs.client.ClientActor.send_all.Given as goal

abbrev pub invariant-loop : goal.invariant-loop
invariant-loop l =
    record {
      on : SendsOn l.fn.self l.self;
      room : l.fn.self.sent + free l.fn.self.end ≤ l.self.sent + free l.self.end;
    }

abbrev pub decreases-loop : goal.decreases-loop
decreases-loop l = length l.self.events - l.self.sent
