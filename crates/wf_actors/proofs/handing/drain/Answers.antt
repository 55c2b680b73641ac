use Rattle.std.proofs.Common.{◌≡◌, ◌++◌, [], ◌∷◌, ap, subst, ◌∙◌}
use Rattle.wf_exchange.specs.Ports.{Ways, unit_of, popped_from}
use Rattle.wf_actors.specs.Taking.{Nearby}
use Rattle.wf_actors.proofs.Takings.{then_more, one_handed}
use Rattle.wf_actors.proofs.handing.drain.Goals as goal

pub loop-update-preserved : goal.loop-update-preserved
loop-update-preserved g c =
    let i = c.loop-update.invariant in
    let e = c.settle.ensures in
    let same : unit_of c.loop-update.sender ≡ unit_of c.args.sender.now = ap (λ (w : Ways). w.unit) i.sender in
    record {
      reader = e.reader ∙ i.reader;
      sender = e.sender ∙ i.sender;
      pushed = (λ v. e.pushed v ∙ i.pushed v);
      more = then_more Nearby (unit_of c.args.sender.now) c.args.node.now c.loop-update.node c.take.new.node _ _ _ _ _ _ i.more
          (one_handed (unit_of c.args.sender.now) c.loop-update.node c.take.new.node _ _ _ _ c.in-Some.update c.take.ensures
          (subst (λ v. popped_from c.settle.new.reader v ≡ popped_from c.loop-update.reader v ++ c.in-Some.update ∷ []) same c.in-Some.ensures.some));
      reader_others = (λ v n. e.others v (λ is. n (is ∙ same)) ∙ i.reader_others v n);
      reader_ends = (λ v. e.reader_ends v ∙ i.reader_ends v);
      sender_mouths = (λ v. e.sender_mouths v ∙ i.sender_mouths v);
    }
