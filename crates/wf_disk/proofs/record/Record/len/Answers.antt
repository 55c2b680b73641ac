use Rattle.std.proofs.Common.{◌≡◌, length, sym, ap, ◌∙◌}
use Rattle.wf_disk.specs.Entries.{Recorded}
use Rattle.wf_disk.proofs.Replays.{length-strokes_of}
use Rattle.wf_disk.proofs.record.Record.len.Goals as goal

pub returns : goal.returns
returns c =
    c.len.ensures ∙ sym c.self.invariant.counted ∙ sym (length-strokes_of c.self.inside.entries.items c.self.inside.written.items)
    ∙ ap (λ (r : Recorded). length r.strokes) c.self.view_is
