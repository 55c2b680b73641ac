use Rattle.std.proofs.Common.{◌<◌, length, get_or, take, sym, ◌∙◌, ap, arith, true≢false}
use Rattle.std.proofs.lemmas.List.{take_all}
use Rattle.std.proofs.lemmas.List.Elements.{All-same}
use Rattle.wf_model.specs.declared.update.StartAt.{StartAt}
use Rattle.wf_activities.specs.UnitItems.{listed}
use Rattle.wf_activities.proofs.Counting.{listed_has}
use Rattle.wf_activities.proofs.counts.widen.Goals as goal

pub returns-in_err-reach-clause-ready : goal.returns-in_err-reach-clause-ready
returns-in_err-reach-clause-ready c = λ all.
    let d : StartAt = record { act = record { 0 = 0 }; trans = record { 0 = 0 }; place = 0 } in
    let lt : c.loop-start.start-index < length c.args.starts.now = omega arith in
    let within : (get_or c.args.starts.now c.loop-start.start-index d).act.0 < length c.args.counts.now.items =
    listed_has (λ (s : StartAt). s.act.0 < length c.args.counts.now.items) c.args.acts.now c.args.starts.now c.loop-start.start-index d lt (sym c.is_listed.ensures ∙ c.if-is_listed.true) all in
    absurd (true≢false (sym (c.in_err-reach.ensures.ready (omega (arith, within, c.loop-start.invariant.longer)))))

pub returns-clause-wide : goal.returns-clause-wide
returns-clause-wide c =
    All-same (λ (s : StartAt). s.act.0 < length c.loop-start.counts.items) (listed c.args.acts.now c.args.starts.now) (listed c.args.acts.now (take c.loop-start.start-index c.args.starts.now))
    (ap (listed c.args.acts.now) (sym (take_all c.loop-start.start-index c.args.starts.now (omega arith)))) c.loop-start.invariant.wide
