use Rattle.std.proofs.Common.{arith, ◌≡◌, ◌+◌, ◌++◌, ◌∷◌, [], List, length, sym, ap, ◌∙◌, length-append}
use Rattle.wf_disk.specs.Entries.{Recorded, total, strokes_of}
use Rattle.wf_disk.specs.Strokes.{Stroke}
use Rattle.wf_disk.specs.declared.entry.Entry.{Entry}
use Rattle.wf_disk.specs.declared.entry.Entry.TheVariants as entry
use Rattle.wf_disk.proofs.Replays.{total-append, strokes_of-write}
use Rattle.wf_disk.proofs.record.Record.add_write.Goals as goal

pub invariant_of-self : goal.invariant_of-self
invariant_of-self c =
    let writes = ap (λ (r : Recorded). r.writes) (sym c.self.view_is) in
    let filled : total c.push_in_room.new.entries.items ≡ total c.self.inside.entries.items + length c.args.bytes.now =
    ap total c.push_in_room.ensures.items ∙ total-append c.self.inside.entries.items (entry.Wrote c.args.at (length c.args.bytes.now) ∷ []) ∙ omega arith in
    record {
      filled = omega (
        arith,
        filled,
        c.self.invariant.filled,
        ap length c.extend_in_room.ensures.items,
        length-append c.self.inside.written.items c.args.bytes.now,
      );
      counted = omega (
        arith,
        ap length c.push_in_room.ensures.items,
        length-append c.self.inside.entries.items (entry.Wrote c.args.at (length c.args.bytes.now) ∷ []),
        c.self.invariant.counted,
        c.push_in_room.ensures.len,
      );
      within = omega (arith, c.self.invariant.within, c.push_in_room.ensures.len);
      spare = λ less. omega (arith, writes, c.requires.writes, c.self.invariant.within, c.push_in_room.ensures.len, c.push_in_room.ensures.capacity);
    }

pub returns-clause-strokes : goal.returns-clause-strokes
returns-clause-strokes c =
    ap (λ (es : List Entry). strokes_of es c.extend_in_room.new.written.items) c.push_in_room.ensures.items
    ∙ ap (strokes_of (c.self.inside.entries.items ++ entry.Wrote c.args.at (length c.args.bytes.now) ∷ [])) c.extend_in_room.ensures.items
    ∙ strokes_of-write c.self.inside.entries.items c.self.inside.written.items c.args.bytes.now c.args.at c.self.invariant.filled
    ∙ ap (λ (r : Recorded). r.strokes ++ Stroke.Wrote c.args.at c.args.bytes.now ∷ []) c.self.view_is
