use Rattle.std.proofs.Common.{◌∙◌, sym, ap}
use Rattle.std.specs.Prelude.{option_map}
use Rattle.wf_model.specs.declared.outer.Outer.{Outer}
use Rattle.wf_model.specs.declared.outer.Entry.{Entry}
use Rattle.wf_views.specs.Knowledge.{cut_entry}
use Rattle.wf_updates.specs.Tables.{told_by}
use Rattle.wf_updates.proofs.Tabled.{added_more, same_more}
use Rattle.wf_updates.proofs.after.add_entries.Goals as goal
use Rattle.wf_updates.proofs.after.add_entries.Goals.{in-Some+in_ok-push, in_default}

pub loop-outer-preserved : goal.loop-outer-preserved
loop-outer-preserved c = elim c.match-branch-2.branch [
  | in-Some+in_ok-push w ↦ w.entries-is
      ∙ added_more (λ (outer : Outer). let x : Entry = record { unit = c.args.unit; outer = outer } in cut_entry (told_by c.args.known.now) x) c.args.outers.now c.loop-outer.outer-index c.outer-item.result
      (record { unit = c.args.unit; outer = w.in-Some.outer }) c.args.entries.now c.loop-outer.entries w.push.new.self c.loop-outer-test.true c.outer-item.is
      (ap (option_map (λ outer. record { unit = c.args.unit; outer = outer })) (sym c.in_ok-outer.ensures ∙ w.in-Some.is)) c.loop-outer.invariant w.in_ok-push.ensures.ok
  | in_default w ↦ w.entries-is
      ∙ same_more (λ (outer : Outer). let x : Entry = record { unit = c.args.unit; outer = outer } in cut_entry (told_by c.args.known.now) x) c.args.outers.now c.loop-outer.outer-index c.outer-item.result
      c.args.entries.now c.loop-outer.entries c.loop-outer-test.true c.outer-item.is
      (ap (option_map (λ outer. record { unit = c.args.unit; outer = outer })) (sym c.in_ok-outer.ensures ∙ w.in_default.is)) c.loop-outer.invariant
]
