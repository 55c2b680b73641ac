use Rattle.std.proofs.Common.{get_or, sym, ◌∙◌}
use Rattle.wf_semantics.specs.Effects.{actions_of}
use Rattle.wf_effects.proofs.Performed.{sizes_after, fired_more}
use Rattle.wf_effects.proofs.gathered.Gathered.fire_all.Goals as goal

pub loop-trans-preserved : goal.loop-trans-preserved
loop-trans-preserved g c =
    let seen = g.S.Snapshot.seen c.args.snap.now in
    let t = (get_or c.args.fired.now c.loop-trans.trans-index (record { 0 = 0 })).0 in
    let sizes = sizes_after seen t (actions_of c.args.chart.now t) c.loop-trans.self c.fire.new.self (c.in_ok-fire.ensures) in
    record {
      rest =
          sym (fired_more c.args.chart.now seen c.args.fired.now c.loop-trans.trans-index (record { 0 = 0 }) c.loop-trans.self c.fire.new.self c.loop-trans-test.true (c.in_ok-fire.ensures))
          ∙ c.loop-trans.invariant.rest;
      vars = sizes.vars ∙ c.loop-trans.invariant.vars;
      events = sizes.events ∙ c.loop-trans.invariant.events;
    }
