use Rattle.std.proofs.Common.{◌≡◌, Some, sym, ◌∙◌}
use Rattle.wf_server.proofs.node.step.take.Goals as goal

pub turn-requires-clause-may : goal.turn-requires-clause-may
turn-requires-clause-may c = (c.requires c.in-Some.field-0 (sym c.take.ensures.value ∙ c.in-Some.is)).0

pub turn-requires-clause-prepared : goal.turn-requires-clause-prepared
turn-requires-clause-prepared c = (c.requires c.in-Some.field-0 (sym c.take.ensures.value ∙ c.in-Some.is)).1

pub turn-requires-clause-room : goal.turn-requires-clause-room
turn-requires-clause-room c = (c.requires c.in-Some.field-0 (sym c.take.ensures.value ∙ c.in-Some.is)).2

pub turn-requires-clause-items : goal.turn-requires-clause-items
turn-requires-clause-items c = (c.requires c.in-Some.field-0 (sym c.take.ensures.value ∙ c.in-Some.is)).3
