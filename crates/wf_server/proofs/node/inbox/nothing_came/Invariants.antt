use Rattle.std.proofs.Common.{◌≡◌, ◌≤◌, None, replicate}
use Rattle.wf_server.proofs.node.inbox.nothing_came.Given as goal

abbrev pub invariant-loop : goal.invariant-loop
invariant-loop l = (l.slots.items ≡ replicate l.counter None) × (l.counter ≤ l.units)
