use Rattle.std.proofs.Common.{rules, ◌+◌, ℕ, List, Some, length, sym, ◌∙◌, ap, subst}
use Rattle.std.specs.Prelude.{◌==◌}
use Rattle.wf_disk.specs.Disk.{Only, Elapses, GoesOnOrStops}
use Rattle.wf_disk.specs.Strokes.{Outcome}
use Rattle.wf_disk.specs.Memory.{Held, image_of, state_of, told_of, counted}
use Rattle.wf_disk.proofs.Plans.{fails_on, stops_by}
use Rattle.wf_disk.proofs.Tells.{within_image, image_sync, elapses_sync}
use Rattle.wf_disk.proofs.memory.MemDiskDisk.sync.Goals as goal

pub returns-in-Done-clause-synced : goal.returns-in-Done-clause-synced
returns-in-Done-clause-synced c = subst (λ (h : Held). Only (image_of c.args.self.now) (Outcome (state_of h))) (sym c.count.ensures.next) c.do_sync.ensures.only

pub returns-in-Done-clause-image : goal.returns-in-Done-clause-image
returns-in-Done-clause-image c =
    let m = c.args.self.now in
    ap (λ (h : Held). Some (image_of h)) (c.count.ensures.next ∙ ap counted c.do_sync.ensures.synced)
    ∙ ap (λ (file : List ℕ). Some file) (image_sync (m.synced == length m.strokes) m c.do_sync.new.self.room c.do_sync.new.self.writes)

pub returns-in-Done-clause-crash : goal.returns-in-Done-clause-crash
returns-in-Done-clause-crash c =
    let m = c.args.self.now in
    let only : Only (image_of m) (Outcome (state_of c.count.new.self)) =
    subst (λ (h : Held). Only (image_of m) (Outcome (state_of h))) (sym c.count.ensures.next) c.do_sync.ensures.only in
    within_image m.first m.strokes (Outcome (state_of c.count.new.self)) only

pub returns-in-Done-clause-time : goal.returns-in-Done-clause-time
returns-in-Done-clause-time c =
    let m = c.args.self.now in
    subst (λ (h : Held). Elapses (told_of m) (told_of h)) (sym (c.count.ensures.next ∙ ap counted c.do_sync.ensures.synced))
    (elapses_sync (m.synced == length m.strokes) m c.do_sync.new.self.room c.do_sync.new.self.writes)

pub returns-in-Fails-clause-plan : goal.returns-in-Fails-clause-plan
returns-in-Fails-clause-plan c =
    let m = c.args.self.now in
    record {
      done = search rules;
      kept = search rules;
      failed = search rules;
      goes_on_or_stops = λ _. subst (λ (h : Held). GoesOnOrStops (told_of m) (told_of h) (m.clock + 1)) (sym c.count_failed.ensures.next) (fails_on m c.count_failed.ensures.range.0 (sym c.in-Fails.ensures.fate));
    }

pub returns-in-Stops-clause-plan : goal.returns-in-Stops-clause-plan
returns-in-Stops-clause-plan c = record {
  done = search rules;
  kept = search rules;
  failed = search rules;
  goes_on_or_stops = λ _. stops_by c.args.self.now c.stop_by.new.self c.in-Stops.outcome (sym c.in-Stops.ensures.fate) (ap (λ (h : Held). h.stop) c.stop_by.ensures.next);
}
