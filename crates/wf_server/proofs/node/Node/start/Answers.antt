use Rattle.std.proofs.Common.{◌≡◌, rules, arith, sym, ap, ◌∙◌, subst}
use Rattle.std.specs.Prelude.{Ok}
use Rattle.wf_journal.specs.declared.fault.StartFault.TheVariants as starts
use Rattle.wf_server.specs.declared.fault.NodeFault.TheVariants as faults
use Rattle.wf_server.specs.Starting.{StartFails, LeavesBad, unstarted_by}
use Rattle.wf_server.specs.Heads.{ReadFails}
use Rattle.wf_server.proofs.Stretches.{runs_more, runs_as}
use Rattle.wf_journal.specs.Start.{start_strokes}
use Rattle.wf_server.specs.Starting.{most_on}
use Rattle.wf_server.proofs.Starts.{fewer_strokes, reopens, stays_shut, if_ok, if_ok_all, if_err, if_err_both, whole_stretch, start_history, refused_here, strokes_then, start_keeps, start_stretch_refused, unstarted_fails, leaves_unread, leaves_unstarted, unstarted_failed}
use Rattle.wf_server.proofs.Starts.{can_start_of}
use Rattle.wf_server.proofs.Rooms.{start_room, start_room_refused, ok_always}
use Rattle.wf_server.proofs.node.Node.start.Goals as goal

pub returns-in-Ok-clause-history : goal.returns-in-Ok-clause-history
returns-in-Ok-clause-history g c = if_ok c.of_journal.result _ _ (λ node h. start_history c.args.part (g.D.Disk.told c.args.disk) (g.D.Disk.told c.in-Ok.journal.disk) c.in-Ok.ensures.kept (λ wanted. wanted ≡ Ok node.past) h) c.of_journal.ensures.history

pub returns-in-Ok-clause-refused : goal.returns-in-Ok-clause-refused
returns-in-Ok-clause-refused g c = if_err c.of_journal.result _ _ (λ refused h. refused_here c.args.part (g.D.Disk.told c.args.disk) (g.D.Disk.told c.in-Ok.journal.disk) refused.fault c.in-Ok.ensures.kept c.in-Ok.ensures.whole h) c.of_journal.ensures.refused

pub returns-in-Ok-clause-kept : goal.returns-in-Ok-clause-kept
returns-in-Ok-clause-kept g c = if_err c.of_journal.result _ _ (λ refused s. (whole_stretch c.args.part (g.D.Disk.told c.args.disk) (g.D.Disk.told c.in-Ok.journal.disk) _ _ (g.met.D.Disk.lawful c.in-Ok.journal.disk) c.in-Ok.ensures.kept c.in-Ok.ensures.any_moment c.in-Ok.ensures.plan c.in-Ok.ensures.faults c.in-Ok.ensures.strokes c.in-Ok.ensures.most s).keeps.image) c.of_journal.ensures.stretch_refused

pub returns-in-Ok-clause-untouched : goal.returns-in-Ok-clause-untouched
returns-in-Ok-clause-untouched g c =
    let old = g.D.Disk.told c.args.disk in
    let mid = g.D.Disk.told c.in-Ok.journal.disk in
    if_err_both c.of_journal.result _ _ _
    (λ refused s h. leaves_unread c.args.part old (g.D.Disk.told refused.disk) refused.fault
    (whole_stretch c.args.part (g.D.Disk.told c.args.disk) (g.D.Disk.told c.in-Ok.journal.disk) _ _ (g.met.D.Disk.lawful c.in-Ok.journal.disk) c.in-Ok.ensures.kept c.in-Ok.ensures.any_moment c.in-Ok.ensures.plan c.in-Ok.ensures.faults c.in-Ok.ensures.strokes c.in-Ok.ensures.most s).keeps
    (start_history c.args.part old mid c.in-Ok.ensures.kept (λ wanted. ReadFails wanted refused.fault) h))
    c.of_journal.ensures.stretch_refused c.of_journal.ensures.refused

pub returns-in-Err-clause-untouched : goal.returns-in-Err-clause-untouched
returns-in-Err-clause-untouched g c =
    let is : c.from.result ≡ unstarted_by c.in-Err.refused.fault = search (rules, c.from.ensures) in
    subst (LeavesBad (g.D.Disk.told c.args.disk) (g.D.Disk.told c.in-Err.refused.disk)) (sym is) (leaves_unstarted (g.D.Disk.told c.args.disk) (g.D.Disk.told c.in-Err.refused.disk) c.in-Err.refused.fault c.in-Err.ensures.bad)

pub returns-in-Ok-clause-crash : goal.returns-in-Ok-clause-crash
returns-in-Ok-clause-crash g c = if_ok c.of_journal.result _ _ (λ node s. (whole_stretch c.args.part (g.D.Disk.told c.args.disk) (g.D.Disk.told c.in-Ok.journal.disk) _ _ (g.met.D.Disk.lawful c.in-Ok.journal.disk) c.in-Ok.ensures.kept c.in-Ok.ensures.any_moment c.in-Ok.ensures.plan c.in-Ok.ensures.faults c.in-Ok.ensures.strokes c.in-Ok.ensures.most s).keeps.crash) c.of_journal.ensures.stretch

pub returns-in-Ok-clause-crash_refused : goal.returns-in-Ok-clause-crash_refused
returns-in-Ok-clause-crash_refused g c = if_err c.of_journal.result _ _ (λ refused s. (whole_stretch c.args.part (g.D.Disk.told c.args.disk) (g.D.Disk.told c.in-Ok.journal.disk) _ _ (g.met.D.Disk.lawful c.in-Ok.journal.disk) c.in-Ok.ensures.kept c.in-Ok.ensures.any_moment c.in-Ok.ensures.plan c.in-Ok.ensures.faults c.in-Ok.ensures.strokes c.in-Ok.ensures.most s).keeps.crash) c.of_journal.ensures.stretch_refused

pub returns-in-Ok-clause-strokes : goal.returns-in-Ok-clause-strokes
returns-in-Ok-clause-strokes g c = if_ok c.of_journal.result _ _ (λ node h. strokes_then (g.D.Disk.told c.args.disk) (g.D.Disk.told c.in-Ok.journal.disk) (g.D.Disk.told node.journal.disk) c.in-Ok.ensures.kept c.in-Ok.ensures.strokes h) c.of_journal.ensures.strokes

pub returns-in-Ok-clause-runs : goal.returns-in-Ok-clause-runs
returns-in-Ok-clause-runs g c = if_ok c.of_journal.result _ _ (λ node s. (whole_stretch c.args.part (g.D.Disk.told c.args.disk) (g.D.Disk.told c.in-Ok.journal.disk) _ _ (g.met.D.Disk.lawful c.in-Ok.journal.disk) c.in-Ok.ensures.kept c.in-Ok.ensures.any_moment c.in-Ok.ensures.plan c.in-Ok.ensures.faults c.in-Ok.ensures.strokes c.in-Ok.ensures.most s).runs) c.of_journal.ensures.stretch

pub returns-in-Ok-clause-runs_refused : goal.returns-in-Ok-clause-runs_refused
returns-in-Ok-clause-runs_refused g c = if_err c.of_journal.result _ _ (λ refused s. (whole_stretch c.args.part (g.D.Disk.told c.args.disk) (g.D.Disk.told c.in-Ok.journal.disk) _ _ (g.met.D.Disk.lawful c.in-Ok.journal.disk) c.in-Ok.ensures.kept c.in-Ok.ensures.any_moment c.in-Ok.ensures.plan c.in-Ok.ensures.faults c.in-Ok.ensures.strokes c.in-Ok.ensures.most s).runs) c.of_journal.ensures.stretch_refused

pub returns-in-Ok-clause-reopens : goal.returns-in-Ok-clause-reopens
returns-in-Ok-clause-reopens g c =
    let old = g.D.Disk.told c.args.disk in
    let mid = g.D.Disk.told c.in-Ok.journal.disk in
    if_ok_all c.of_journal.result _ _ _ _
    (λ node s h k. reopens c.args.part old (g.D.Disk.told node.journal.disk) node.past
    (whole_stretch c.args.part (g.D.Disk.told c.args.disk) (g.D.Disk.told c.in-Ok.journal.disk) _ _ (g.met.D.Disk.lawful c.in-Ok.journal.disk) c.in-Ok.ensures.kept c.in-Ok.ensures.any_moment c.in-Ok.ensures.plan c.in-Ok.ensures.faults c.in-Ok.ensures.strokes c.in-Ok.ensures.most s).runs
    (start_history c.args.part old mid c.in-Ok.ensures.kept (λ wanted. wanted ≡ Ok node.past) h)
    (strokes_then old mid (g.D.Disk.told node.journal.disk) c.in-Ok.ensures.kept c.in-Ok.ensures.strokes k))
    c.of_journal.ensures.stretch c.of_journal.ensures.history c.of_journal.ensures.strokes

pub returns-in-Ok-clause-stays_shut : goal.returns-in-Ok-clause-stays_shut
returns-in-Ok-clause-stays_shut g c =
    let old = g.D.Disk.told c.args.disk in
    let mid = g.D.Disk.told c.in-Ok.journal.disk in
    if_err_both c.of_journal.result _ _ _
    (λ refused s h. stays_shut c.args.part old (g.D.Disk.told refused.disk) refused.fault
    (whole_stretch c.args.part (g.D.Disk.told c.args.disk) (g.D.Disk.told c.in-Ok.journal.disk) _ _ (g.met.D.Disk.lawful c.in-Ok.journal.disk) c.in-Ok.ensures.kept c.in-Ok.ensures.any_moment c.in-Ok.ensures.plan c.in-Ok.ensures.faults c.in-Ok.ensures.strokes c.in-Ok.ensures.most s).runs
    (refused_here c.args.part old mid refused.fault c.in-Ok.ensures.kept c.in-Ok.ensures.whole h))
    c.of_journal.ensures.stretch_refused c.of_journal.ensures.refused

pub returns-in-Err-clause-refused : goal.returns-in-Err-clause-refused
returns-in-Err-clause-refused g c = λ file at.
    let is : c.from.result ≡ unstarted_by c.in-Err.refused.fault = search (rules, c.from.ensures) in
    subst (StartFails c.args.part file) (sym is) (unstarted_fails c.args.part (g.D.Disk.told c.args.disk) (g.D.Disk.told c.in-Err.refused.disk) c.in-Err.refused.fault c.in-Err.ensures.bad file at)

pub returns-in-Err-clause-kept : goal.returns-in-Err-clause-kept
returns-in-Err-clause-kept g c = (start_keeps c.args.part (g.D.Disk.told c.args.disk) (g.D.Disk.told c.in-Err.refused.disk) c.in-Err.ensures.kept_refused c.in-Err.ensures.any_moment_refused).image

pub returns-in-Err-clause-crash_refused : goal.returns-in-Err-clause-crash_refused
returns-in-Err-clause-crash_refused g c = (start_keeps c.args.part (g.D.Disk.told c.args.disk) (g.D.Disk.told c.in-Err.refused.disk) c.in-Err.ensures.kept_refused c.in-Err.ensures.any_moment_refused).crash

pub returns-in-Err-clause-runs_refused : goal.returns-in-Err-clause-runs_refused
returns-in-Err-clause-runs_refused g c =
    let old = g.D.Disk.told c.args.disk in
    let new = g.D.Disk.told c.in-Err.refused.disk in
    let is : c.from.result ≡ unstarted_by c.in-Err.refused.fault = search (rules, c.from.ensures) in
    runs_as old new (most_on old.image) (c.in-Err.refused.fault ≡ starts.DiskFailed) (c.from.result ≡ faults.DiskFailed) (λ e. is ∙ ap unstarted_by e) (λ e. unstarted_failed c.in-Err.refused.fault (sym is ∙ e))
    (runs_more old new (start_strokes old.image) (most_on old.image) (c.in-Err.refused.fault ≡ starts.DiskFailed) (fewer_strokes old.image)
    (start_stretch_refused c.args.part old new c.in-Err.refused.fault c.in-Err.ensures.kept_refused c.in-Err.ensures.any_moment_refused c.in-Err.ensures.plan_refused c.in-Err.ensures.safe c.in-Err.ensures.cause c.in-Err.ensures.one_stroke).runs)

pub returns-in-Err-clause-stays_shut : goal.returns-in-Err-clause-stays_shut
returns-in-Err-clause-stays_shut g c = stays_shut c.args.part (g.D.Disk.told c.args.disk) (g.D.Disk.told c.in-Err.refused.disk) c.from.result (returns-in-Err-clause-runs_refused g c) (returns-in-Err-clause-refused g c)

pub returns-in-Ok-clause-whole : goal.returns-in-Ok-clause-whole
returns-in-Ok-clause-whole g c = ok_always c.of_journal.result _ (can_start_of (g.D.Disk.told c.args.disk) c.in-Ok.ensures.whole)

pub returns-in-Ok-clause-disk_room : goal.returns-in-Ok-clause-disk_room
returns-in-Ok-clause-disk_room g c = if_ok c.of_journal.result _ _ (λ node room. start_room c.args.part (g.D.Disk.told c.args.disk) (g.D.Disk.told c.in-Ok.journal.disk) (g.D.Disk.told node.journal.disk) c.in-Ok.ensures.kept c.in-Ok.ensures.disk_room room) c.of_journal.ensures.room

pub returns-in-Ok-clause-disk_room_refused : goal.returns-in-Ok-clause-disk_room_refused
returns-in-Ok-clause-disk_room_refused g c = if_err c.of_journal.result _ _ (λ refused room. start_room c.args.part (g.D.Disk.told c.args.disk) (g.D.Disk.told c.in-Ok.journal.disk) (g.D.Disk.told refused.disk) c.in-Ok.ensures.kept c.in-Ok.ensures.disk_room room) c.of_journal.ensures.room_refused

pub returns-in-Err-clause-disk_room_refused : goal.returns-in-Err-clause-disk_room_refused
returns-in-Err-clause-disk_room_refused g c = start_room_refused c.args.part (g.D.Disk.told c.args.disk) (g.D.Disk.told c.in-Err.refused.disk) (g.met.D.Disk.lawful c.in-Err.refused.disk) c.in-Err.ensures.disk_room_refused
