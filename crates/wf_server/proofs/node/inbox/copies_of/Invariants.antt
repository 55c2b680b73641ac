use Rattle.std.proofs.Common.{◌≡◌, take}
use Rattle.wf_server.specs.Servers.{inputs_of}
use Rattle.wf_server.proofs.node.inbox.copies_of.Given as goal

abbrev pub invariant-loop-slot : goal.invariant-loop-slot
invariant-loop-slot l = l.inputs.items ≡ inputs_of (take l.slot-index l.slots)
