use Rattle.std.proofs.Common.{rules, ◌≡◌, ℕ, List, length, sym, ◌∙◌, ap, subst}
use Rattle.wf_disk.specs.Disk.{Only}
use Rattle.wf_disk.specs.Strokes.{Stroke, Outcome, first_state, state_after, image_after}
use Rattle.wf_disk.specs.Memory.{Held, image_of, state_of}
use Rattle.wf_disk.proofs.Tells.{only_sync, only_image}
use Rattle.wf_disk.proofs.Sound.{sound_sync}
use Rattle.wf_disk.proofs.memory.MemDisk.do_sync.Goals as goal

pub invariant_of-self : goal.invariant_of-self
invariant_of-self c =
    sound_sync c.self.inside.image.items c.self.inside.first.items c.self.inside.history.strokes c.add_sync.new.self.strokes c.self.inside.history.synced c.add_sync.new.self.synced _
    c.self.invariant c.add_sync.ensures.strokes c.add_sync.ensures.synced

pub returns-then-not-is_synced-clause-only : goal.returns-then-not-is_synced-clause-only
returns-then-not-is_synced-clause-only c =
    let first = c.self.inside.first.items in
    let only : Only (image_after first c.self.inside.history.strokes) (Outcome (state_after (first_state first) c.add_sync.new.self.strokes)) =
    subst (λ (s : List Stroke). Only (image_after first c.self.inside.history.strokes) (Outcome (state_after (first_state first) s))) (sym c.add_sync.ensures.strokes)
    (only_sync first c.self.inside.history.strokes) in
    λ file may. only file may ∙ ap image_of c.self.view_is

pub returns-else-not-is_synced-clause-only : goal.returns-else-not-is_synced-clause-only
returns-else-not-is_synced-clause-only c =
    let first = c.self.inside.first.items in
    let strokes = c.self.inside.history.strokes in
    let all : c.self.inside.history.synced ≡ length strokes = search rules in
    let clean : Only (image_after first strokes) (state_after (first_state first) strokes).may =
    subst (λ (f : List ℕ). Only f (state_after (first_state first) strokes).may) c.self.invariant.replayed (c.self.invariant.clean all) in
    subst (λ (m : Held). Only (image_of m) (Outcome (state_of m))) c.self.view_is (only_image first strokes clean)
