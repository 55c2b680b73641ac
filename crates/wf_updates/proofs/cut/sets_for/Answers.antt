use Rattle.std.proofs.Common.{◌≡◌, ◌∙◌, sym, ap}
use Rattle.std.proofs.lemmas.Result.{IfOk-weaker}
use Rattle.wf_views.specs.Relevant.{nothing, cut_update, relevant}
use Rattle.wf_parts.specs.Peers.{Knowledge}
use Rattle.wf_updates.specs.Tables.{known_at, told_by}
use Rattle.wf_updates.proofs.Cuts.{bare_cut}
use Rattle.wf_updates.proofs.cut.sets_for.Goals as goal

pub returns-then-is_bare : goal.returns-then-is_bare
returns-then-is_bare c =
    let update = c.args.update.now in
    let peer = c.args.peer.0 in
    IfOk-weaker c.none.result (λ sets. told_by sets ≡ nothing) (λ sets. cut_update (told_by sets) update ≡ relevant c.args.peers.now update peer)
    (λ sets e. bare_cut (told_by sets) (known_at c.args.peers.now peer) update (sym c.is_bare.ensures ∙ c.if-is_bare.true)) c.none.ensures
