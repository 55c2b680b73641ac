use Rattle.std.proofs.Common.{arith, ◌≡◌, length, sym, ap, ◌∙◌}
use Rattle.wf_disk.specs.Entries.{Recorded}
use Rattle.wf_disk.proofs.Replays.{length-strokes_of}
use Rattle.wf_disk.proofs.record.Record.is_synced.Goals as goal

pub returns : goal.returns
returns c =
    let size : length c.args.self.now.strokes ≡ c.len.result =
    ap (λ (r : Recorded). length r.strokes) (sym c.self.view_is) ∙ length-strokes_of c.self.inside.entries.items c.self.inside.written.items
    ∙ c.self.invariant.counted ∙ sym c.len.ensures in
    let synced : c.args.self.now.synced ≡ c.self.inside.synced = ap (λ (r : Recorded). r.synced) (sym c.self.view_is) in
    grind (arith, size, synced)
