use Rattle.std.proofs.Common.{sym, ◌∙◌}
use Rattle.wf_actors.specs.Taking.{Anywhere}
use Rattle.wf_actors.proofs.Takings.{then_more, one_popped}
use Rattle.wf_actors.proofs.taking.take_in.Goals as goal

pub loop-preserved : goal.loop-preserved
loop-preserved g c =
    let i = c.loop.invariant in
    record {
      ways = c.pop.ensures.ways ∙ i.ways;
      ends = (λ v. c.pop.ensures.ends v ∙ i.ends v);
      others = (λ v n. c.pop.ensures.others v n ∙ i.others v n);
      more = then_more Anywhere _ _ _ _ _ _ _ _ _ _ i.more (one_popped _ _ _ _ _ _ _ c.in-Some.update (sym c.is_ahead.ensures ∙ c.if-is_ahead.false) c.take.ensures c.in-Some.ensures.some);
    }
