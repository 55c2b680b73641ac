use Rattle.std.proofs.Common.{◌∙◌, ◌++◌, List, ap}
use Rattle.wf_model.specs.declared.outer.Outer.{Outer}
use Rattle.wf_updates.specs.Tables.{told_by}
use Rattle.wf_updates.specs.After.{entries_from}
use Rattle.wf_updates.proofs.Tabled.{entries_more}
use Rattle.wf_updates.proofs.after.cut_entries.Goals as goal

pub loop-update-preserved : goal.loop-update-preserved
loop-update-preserved c =
    let u = c.update-item.result in
    entries_more (told_by c.args.known.now) c.args.all.now c.loop-update.update-index u c.loop-update.entries c.add_entries.new.entries c.loop-update-test.true c.update-item.is c.loop-update.invariant
    (c.in_ok-add_entries.ensures
    ∙ ap (λ (l : List Outer). c.loop-update.entries ++ entries_from (told_by c.args.known.now) u.from l) c.as_slice.ensures)
