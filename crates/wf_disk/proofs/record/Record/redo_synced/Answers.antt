use Rattle.std.proofs.Common.{arith, ◌≡◌, ◌≤◌, length, take, sym, ap, ◌∙◌}
use Rattle.std.specs.Prelude.{vec_capacity}
use Rattle.wf_disk.specs.Entries.{Recorded, total, strokes_of}
use Rattle.wf_disk.specs.Strokes.{image_after, do_fit, are_fit}
use Rattle.wf_disk.proofs.Replays.{strokes_of-take, total-take, ranges_of-strokes_of}
use Rattle.wf_disk.proofs.record.Record.redo_synced.Goals as goal

pub redo-requires-clause-filled : goal.redo-requires-clause-filled
redo-requires-clause-filled c =
    rw (c.deref.ensures.value, c.deref-2.ensures.value)
    (omega (arith, total-take c.self.inside.synced c.self.inside.entries.items, c.self.invariant.filled))

pub redo-requires-clause-fit : goal.redo-requires-clause-fit
redo-requires-clause-fit c =
    let kept = take c.self.inside.synced c.self.inside.entries.items in
    let room = vec_capacity c.args.image.now in
    let size = length c.args.image.now.items in
    let filled : total kept ≤ length c.self.inside.written.items = omega (arith, total-take c.self.inside.synced c.self.inside.entries.items, c.self.invariant.filled) in
    rw c.deref.ensures.value
    (ap (do_fit size room) (sym (ranges_of-strokes_of kept c.self.inside.written.items filled))
    ∙ ap (are_fit size room) (strokes_of-take c.self.inside.synced c.self.inside.entries.items c.self.inside.written.items)
    ∙ ap (λ (r : Recorded). are_fit size room (take r.synced r.strokes)) c.self.view_is ∙ c.requires)

pub returns-clause-image : goal.returns-clause-image
returns-clause-image c =
    let image = c.args.image.now.items in
    let redone : c.redo.new.image.items ≡ image_after image (strokes_of (take c.self.inside.synced c.self.inside.entries.items) c.self.inside.written.items) =
    rw (c.deref.ensures.value, c.deref-2.ensures.value) at c.redo.ensures.image in
    redone ∙ ap (image_after image) (strokes_of-take c.self.inside.synced c.self.inside.entries.items c.self.inside.written.items)
    ∙ ap (λ (r : Recorded). image_after image (take r.synced r.strokes)) c.self.view_is
