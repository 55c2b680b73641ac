use Rattle.std.proofs.Common.{arith, ◌≡◌, ◌++◌, ◌∷◌, [], List, length, sym, ap, ◌∙◌, length-append}
use Rattle.std.specs.Prelude.{vec_len}
use Rattle.wf_disk.specs.Entries.{Recorded, total, strokes_of}
use Rattle.wf_disk.specs.Strokes.{Stroke}
use Rattle.wf_disk.specs.declared.entry.Entry.{Entry}
use Rattle.wf_disk.specs.declared.entry.Entry.TheVariants as entry
use Rattle.wf_disk.proofs.Replays.{length-strokes_of, total-append, strokes_of-sync}
use Rattle.wf_disk.proofs.record.Record.add_sync.Goals as goal

pub push_in_room-requires : goal.push_in_room-requires
push_in_room-requires c =
    let size : length c.args.self.now.strokes ≡ vec_len c.self.inside.entries =
    ap (λ (r : Recorded). length r.strokes) (sym c.self.view_is) ∙ length-strokes_of c.self.inside.entries.items c.self.inside.written.items ∙ c.self.invariant.counted in
    let synced : c.args.self.now.synced ≡ c.self.inside.synced = ap (λ (r : Recorded). r.synced) (sym c.self.view_is) in
    c.self.invariant.spare (omega (arith, c.requires, size, synced))

pub invariant_of-self : goal.invariant_of-self
invariant_of-self c = record {
  filled = ap total c.push_in_room.ensures.items ∙ total-append c.self.inside.entries.items (entry.Synced ∷ []) ∙ omega (arith, c.self.invariant.filled);
  counted = omega (
    arith,
    ap length c.push_in_room.ensures.items,
    length-append c.self.inside.entries.items (entry.Synced ∷ []),
    c.self.invariant.counted,
    c.push_in_room.ensures.len,
  );
  within = omega arith;
  spare = λ less. absurd (omega (arith, less));
}

pub returns-clause-strokes : goal.returns-clause-strokes
returns-clause-strokes c =
    ap (λ (es : List Entry). strokes_of es c.self.inside.written.items) c.push_in_room.ensures.items ∙ strokes_of-sync c.self.inside.entries.items c.self.inside.written.items
    ∙ ap (λ (r : Recorded). r.strokes ++ Stroke.Synced ∷ []) c.self.view_is

pub returns-clause-synced : goal.returns-clause-synced
returns-clause-synced c =
    let size : length c.args.self.now.strokes ≡ vec_len c.self.inside.entries =
    ap (λ (r : Recorded). length r.strokes) (sym c.self.view_is) ∙ length-strokes_of c.self.inside.entries.items c.self.inside.written.items ∙ c.self.invariant.counted in
    omega (arith, size, c.push_in_room.ensures.len)

pub returns-clause-writes : goal.returns-clause-writes
returns-clause-writes c =
    let size : length c.args.self.now.strokes ≡ vec_len c.self.inside.entries =
    ap (λ (r : Recorded). length r.strokes) (sym c.self.view_is) ∙ length-strokes_of c.self.inside.entries.items c.self.inside.written.items ∙ c.self.invariant.counted in
    let synced : c.args.self.now.synced ≡ c.self.inside.synced = ap (λ (r : Recorded). r.synced) (sym c.self.view_is) in
    let writes = ap (λ (r : Recorded). r.writes) (sym c.self.view_is) in
    omega (arith, c.requires, size, synced, writes, c.push_in_room.ensures.len, c.push_in_room.ensures.capacity)
