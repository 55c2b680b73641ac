use Rattle.std.proofs.Common.{◌≡◌, true, List, ℕ, length, take, sym, subst, vec_capacity}
use Rattle.wf_disk.specs.Strokes.{are_fit}
use Rattle.wf_disk.proofs.Replays.{fit_more}
use Rattle.wf_disk.proofs.leaving.lose.Goals as goal

pub redo_synced-requires : goal.redo_synced-requires
redo_synced-requires c =
    let kept = take c.args.history.now.synced c.args.history.now.strokes in
    let room = vec_capacity c.copy_over.new.into in
    let fit : are_fit (length c.args.first.now) room kept ≡ true =
    fit_more (length c.args.first.now) (vec_capacity c.args.image.now) room kept c.copy_over.ensures.capacity c.requires.fit in
    subst (λ (file : List ℕ). are_fit (length file) room kept ≡ true) (sym c.copy_over.ensures.items) fit
