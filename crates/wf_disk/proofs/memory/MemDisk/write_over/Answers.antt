use Rattle.std.proofs.Common.{rules, arith, ◌≡◌, length, sym, ◌∙◌, ap}
use Rattle.std.specs.Prelude.{vec_capacity}
use Rattle.wf_disk.specs.Disk.{put_at}
use Rattle.wf_disk.specs.Memory.{Held, image_of}
use Rattle.wf_disk.proofs.Sound.{sound_write}
use Rattle.wf_disk.proofs.memory.MemDisk.write_over.Goals as goal

pub invariant_of-self : goal.invariant_of-self
invariant_of-self c =
    let put : c.put_over-done.new.image.items ≡ put_at c.self.inside.image.items c.args.at c.args.bytes.now = search rules in
    let whole : length (image_of c.args.self.now) ≡ length c.self.inside.image.items = ap (λ (m : Held). length (image_of m)) (sym c.self.view_is) ∙ ap length (sym c.self.invariant.replayed) in
    let room = ap (λ (m : Held). m.room) (sym c.self.view_is) in
    sound_write c.self.inside.image.items c.put_over-done.new.image.items c.self.inside.first.items c.self.inside.history.strokes c.add_write.new.self.strokes c.self.inside.history.synced
    c.add_write.new.self.synced (vec_capacity c.self.inside.first) c.args.at c.args.bytes.now c.self.invariant put c.add_write.ensures.strokes c.add_write.ensures.synced
    (omega (arith, whole, c.requires.begins)) (omega (arith, room, c.requires.room, c.self.invariant.spare))
