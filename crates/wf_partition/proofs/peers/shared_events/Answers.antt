use Rattle.std.proofs.Common.{◌∙◌, sym, refl}
use Rattle.wf_model.specs.Ids.{event_id}
use Rattle.wf_partition.specs.Marked.{are_set}
use Rattle.wf_partition.proofs.Shared.{id_kept, id_left}
use Rattle.wf_partition.proofs.peers.shared_events.Goals as goal
use Rattle.wf_partition.proofs.peers.shared_events.Goals.{then-are_set+in_ok-push, else-are_set}

pub loop-k-preserved : goal.loop-k-preserved
loop-k-preserved c =
    elim c.if-are_set.branch [
      | then-are_set+in_ok-push w ↦ w.ids-is
          ∙ id_kept event_id (are_set c.args.held.now c.args.known.now) c.loop-k.k _ c.loop-k.ids w.push.new.self refl (sym c.are_set.ensures ∙ w.if-are_set.true) c.loop-k.invariant w.in_ok-push.ensures.ok
      | else-are_set w ↦ w.ids-is ∙ id_left event_id (are_set c.args.held.now c.args.known.now) c.loop-k.k c.loop-k.ids (sym c.are_set.ensures ∙ w.if-are_set.false) c.loop-k.invariant
    ]
