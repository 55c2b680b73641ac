-- Of other calls. The machine that counts for a world.
use Rattle.std.specs.Prelude.{List, map}
use Rattle.wf_machine.specs.Machine.{CountingMachine}
use Rattle.wf_slot.specs.Units.{UnitState, server_of}
use Rattle.wf_world.specs.declared.mail.Sent.{Sent}
use Rattle.wf_world.specs.Mail.{message_of}

-- THE MACHINE that counts for a world of these units and messages
abbrev pub machine_of : List UnitState → List Sent → CountingMachine
machine_of units messages = record { servers = map server_of units; messages = map message_of messages }
