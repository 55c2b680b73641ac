use Rattle.wf_server.specs.Servers.{inputs_of, with_turn}
use Rattle.wf_actors.proofs.Beginnings.{begins_turned}
use Rattle.wf_actors.proofs.Keepings.{call_keeps}
use Rattle.wf_actors.proofs.Outcomes.{turn_outcome, turn_works}
use Rattle.wf_actors.proofs.keeping.turn.Goals as goal

pub returns-clause-keeps : goal.returns-clause-keeps
returns-clause-keeps g c =
    let told = g.D.Disk.told in
    let old = c.args.node.now in
    let new = c.turn.new.self in
    let next = with_turn old.past old.came in
    let e = c.turn.ensures in
    call_keeps told old new next c.requires.working (begins_turned old.past (inputs_of old.came)) e.crash e.disk.tells
    (turn_outcome told old new next c.requires.working new.early c.turn.result e.took e.kept e.refused e.healthy e.no_memory e.failed e.disk.two)

pub returns-clause-working : goal.returns-clause-working
returns-clause-working g c =
    let e = c.turn.ensures in
    turn_works g.D.Disk.told c.args.node.now c.turn.new.self (with_turn c.args.node.now.past c.args.node.now.came) c.requires.working c.turn.result e.healthy e.refused e.no_memory
