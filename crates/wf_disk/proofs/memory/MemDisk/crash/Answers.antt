use Rattle.std.proofs.Common.{◌≡◌, ℕ, List, length, sym, ◌∙◌, ap, subst}
use Rattle.wf_disk.specs.Strokes.{Outcome, image_after, left_after}
use Rattle.wf_disk.specs.Memory.{Held, left_by, state_of}
use Rattle.wf_disk.proofs.Tells.{left_is_outcome}
use Rattle.wf_disk.proofs.memory.MemDisk.crash.Goals as goal

pub returns-clause-may : goal.returns-clause-may
returns-clause-may c =
    let strokes = c.self.inside.history.strokes in
    let synced = c.self.inside.history.synced in
    let left : image_after c.copy_over.new.into.items c.clear.new.self.strokes ≡ left_by c.args.outcome c.args.self.now =
    ap (image_after c.copy_over.new.into.items) c.clear.ensures.strokes ∙ c.copy_over.ensures.items ∙ c.deref-2.ensures.value ∙ c.leave.ensures.image
    ∙ ap (λ (first : List ℕ). left_after c.args.outcome first strokes synced) c.deref.ensures.value ∙ ap (left_by c.args.outcome) c.self.view_is in
    subst (Outcome (state_of c.args.self.now)) (sym left) (subst (λ (m : Held). Outcome (state_of m) (left_by c.args.outcome m)) c.self.view_is
    (left_is_outcome c.args.outcome c.self.inside.first.items strokes synced (length c.self.inside.image.items) c.self.invariant.fit c.self.invariant.unsynced))
