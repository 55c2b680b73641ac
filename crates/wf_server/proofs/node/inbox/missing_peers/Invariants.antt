use Rattle.std.proofs.Common.{◌≡◌, ◌<◌, ◌≤◌, ℕ, cond}
use Rattle.std.specs.Int.{bit_at}
use Rattle.wf_model.specs.Limits.{max_units}
use Rattle.wf_server.specs.Inbox.{is_missing}
use Rattle.wf_server.proofs.Missing.{AreMissingTo}
use Rattle.wf_server.proofs.node.inbox.missing_peers.Given as goal

abbrev pub invariant-loop-at : goal.invariant-loop-at
invariant-loop-at l = AreMissingTo l.part l.came l.at l.set
