use Rattle.std.proofs.Common.{arith, ◌≡◌, ℕ, ◌-◌, List, length, take, drop, sym, ap, ◌∙◌, length-drop}
use Rattle.std.specs.Prelude.{vec_capacity}
use Rattle.std.proofs.lemmas.List.{take_all}
use Rattle.wf_disk.specs.declared.entry.Entry.{Entry}
use Rattle.wf_disk.specs.Strokes.{ranges_of, torn_over, do_fit}
use Rattle.wf_disk.specs.Entries.{Recorded, ranges_in}
use Rattle.wf_disk.proofs.Replays.{ranges_of-later}
use Rattle.wf_disk.proofs.record.Record.tear_unsynced.Goals as goal

-- the rest of a list is all that is left of it
rest : (k : ℕ) (es ds : List Entry) → ds ≡ es → take (length ds - k) (drop k ds) ≡ drop k es
rest k es ds is = take_all (length ds - k) (drop k ds) (omega (arith, length-drop k ds)) ∙ ap (drop k) is

pub tear-requires : goal.tear-requires
tear-requires c =
    let k = c.self.inside.synced in
    let es = c.self.inside.entries.items in
    let room = vec_capacity c.args.image.now in
    let size = length c.args.image.now.items in
    record {
      fit =
          ap (λ (ds : List Entry). do_fit size room (ranges_in ds)) (rest k es c.deref.result.now c.deref.ensures.value)
          ∙ ap (do_fit size room) (sym (ranges_of-later k es c.self.inside.written.items (omega (arith, c.self.invariant.filled))))
          ∙ ap (λ (r : Recorded). do_fit size room (ranges_of (drop r.synced r.strokes))) c.self.view_is ∙ c.requires;
    }

pub returns-clause-image : goal.returns-clause-image
returns-clause-image c =
    let k = c.self.inside.synced in
    let es = c.self.inside.entries.items in
    let image = c.args.image.now.items in
    c.tear.ensures.image ∙ ap (λ (ds : List Entry). torn_over image (ranges_in ds)) (rest k es c.deref.result.now c.deref.ensures.value)
    ∙ ap (torn_over image) (sym (ranges_of-later k es c.self.inside.written.items (omega (arith, c.self.invariant.filled))))
    ∙ ap (λ (r : Recorded). torn_over image (ranges_of (drop r.synced r.strokes))) c.self.view_is
