use Rattle.wf_server.specs.Servers.{admission, with_admission}
use Rattle.wf_actors.proofs.Beginnings.{begins_admitted}
use Rattle.wf_actors.proofs.Keepings.{call_keeps}
use Rattle.wf_actors.proofs.Outcomes.{admit_outcome, admit_works, not_new}
use Rattle.wf_actors.proofs.keeping.admit.Goals as goal

pub returns-clause-keeps : goal.returns-clause-keeps
returns-clause-keeps g c =
    let told = g.D.Disk.told in
    let old = c.args.node.now in
    let new = c.admit.new.self in
    let next = with_admission old.past c.args.request c.args.outer.now in
    let e = c.admit.ensures in
    call_keeps told old new next c.requires.working (begins_admitted old.past (admission c.args.request c.args.outer.now)) e.crash e.disk.tells
    (admit_outcome told old new next c.requires.working c.admit.result e.new e.again e.kept e.refused e.healthy e.no_memory e.failed e.disk.two)

pub returns-clause-old : goal.returns-clause-old
returns-clause-old g c unlike = not_new c.args.node.now c.admit.new.self c.admit.result c.admit.ensures.again c.admit.ensures.kept unlike

pub returns-clause-working : goal.returns-clause-working
returns-clause-working g c =
    let e = c.admit.ensures in
    admit_works g.D.Disk.told c.args.node.now c.admit.new.self (with_admission c.args.node.now.past c.args.request c.args.outer.now) c.requires.working c.admit.result e.healthy e.refused e.no_memory
