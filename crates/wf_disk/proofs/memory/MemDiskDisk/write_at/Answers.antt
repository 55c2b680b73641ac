use Rattle.std.proofs.Common.{rules, ◌+◌, ℕ, List, [], ◌∷◌, Some, length, sym, ◌∙◌, ap, subst}
use Rattle.wf_disk.specs.Disk.{Torn, Follows, Elapses, GoesOnOrStops}
use Rattle.wf_disk.specs.Strokes.{Stroke, Outcome}
use Rattle.wf_model.specs.Faults.{one_more}
use Rattle.wf_disk.specs.Memory.{Held, image_of, state_of, told_of, counted, stopped_by}
use Rattle.wf_disk.proofs.Replays.{image_after-more}
use Rattle.wf_disk.proofs.Plans.{fails_on, stops_by}
use Rattle.wf_disk.proofs.Tells.{follows_write, elapses_stroke}
use Rattle.wf_disk.proofs.memory.MemDiskDisk.write_at.Goals as goal

pub returns-in_ok-do_write-in-Done-clause-written : goal.returns-in_ok-do_write-in-Done-clause-written
returns-in_ok-do_write-in-Done-clause-written c =
    let m = c.args.self.now in
    ap (λ (h : Held). Some (image_of h)) (c.count.ensures.next ∙ ap counted c.in_ok-do_write-in-Done.ensures.ok)
    ∙ ap (λ (file : List ℕ). Some file) (image_after-more m.first m.strokes (Stroke.Wrote c.args.at c.args.bytes.now ∷ []))

pub returns-in_ok-do_write-in-Done-clause-crash : goal.returns-in_ok-do_write-in-Done-clause-crash
returns-in_ok-do_write-in-Done-clause-crash c =
    let m = c.args.self.now in
    subst (λ (h : Held). Follows (Torn c.args.at (length c.args.bytes.now)) (Outcome (state_of m)) (Outcome (state_of h)))
    (sym (c.count.ensures.next ∙ ap counted c.in_ok-do_write-in-Done.ensures.ok)) (follows_write m.first m.strokes c.args.at c.args.bytes.now c.requires.begins)

pub returns-in_ok-do_write-in-Done-clause-time : goal.returns-in_ok-do_write-in-Done-clause-time
returns-in_ok-do_write-in-Done-clause-time c =
    let m = c.args.self.now in
    subst (λ (h : Held). Elapses (told_of m) (told_of h)) (sym (c.count.ensures.next ∙ ap counted c.in_ok-do_write-in-Done.ensures.ok))
    (elapses_stroke m m.synced (one_more m.clock) m.faults m.stop m.arm c.do_write.new.self.room c.do_write.new.self.writes (Stroke.Wrote c.args.at c.args.bytes.now))

pub returns-in_ok-do_write-in-Stops-clause-crash : goal.returns-in_ok-do_write-in-Stops-clause-crash
returns-in_ok-do_write-in-Stops-clause-crash c =
    let m = c.args.self.now in
    subst (λ (h : Held). Follows (Torn c.args.at (length c.args.bytes.now)) (Outcome (state_of m)) (Outcome (state_of h)))
    (sym (c.stop_by.ensures.next ∙ ap (λ (h : Held). stopped_by h c.in-Stops.outcome) c.in_ok-do_write-in-Stops.ensures.ok))
    (follows_write m.first m.strokes c.args.at c.args.bytes.now c.requires.begins)

pub returns-in_ok-do_write-in-Stops-clause-time : goal.returns-in_ok-do_write-in-Stops-clause-time
returns-in_ok-do_write-in-Stops-clause-time c =
    let m = c.args.self.now in
    subst (λ (h : Held). Elapses (told_of m) (told_of h)) (sym (c.stop_by.ensures.next ∙ ap (λ (h : Held). stopped_by h c.in-Stops.outcome) c.in_ok-do_write-in-Stops.ensures.ok))
    (elapses_stroke m m.synced (one_more m.clock) (one_more m.faults) (Some c.in-Stops.outcome) m.arm c.do_write-in-Stops.new.self.room c.do_write-in-Stops.new.self.writes
    (Stroke.Wrote c.args.at c.args.bytes.now))

pub returns-in-Fails-clause-plan : goal.returns-in-Fails-clause-plan
returns-in-Fails-clause-plan c =
    let m = c.args.self.now in
    record {
      done = search rules;
      kept = search rules;
      failed = search rules;
      goes_on_or_stops = λ _. subst (λ (h : Held). GoesOnOrStops (told_of m) (told_of h) (m.clock + 1)) (sym c.count_failed.ensures.next) (fails_on m c.count_failed.ensures.range.0 (sym c.in-Fails.ensures.fate));
    }

pub returns-in_ok-do_write-in-Stops-clause-plan : goal.returns-in_ok-do_write-in-Stops-clause-plan
returns-in_ok-do_write-in-Stops-clause-plan c = record {
  done = search rules;
  kept = search rules;
  failed = search rules;
  goes_on_or_stops = λ _. stops_by c.args.self.now c.stop_by.new.self c.in-Stops.outcome (sym c.in-Stops.ensures.fate) (ap (λ (h : Held). h.stop) c.stop_by.ensures.next);
}
