use Rattle.std.proofs.Common.{◌<◌, length, take, sym, ◌∙◌, ap, arith, length-append}
use Rattle.std.proofs.lemmas.List.{length-map}
use Rattle.wf_model.specs.declared.ids.ActId.{ActId}
use Rattle.std.proofs.Common.{ℕ}
use Rattle.wf_model.specs.declared.update.StartAt.{StartAt}
use Rattle.wf_activities.specs.UnitItems.{listed, at_step}
use Rattle.wf_activities.proofs.Counting.{listed_more}
use Rattle.wf_activities.proofs.starts.push_listed.Goals as goal

pub returns-in_err-push-clause-ready : goal.returns-in_err-push-clause-ready
returns-in_err-push-clause-ready c = λ fits.
    let d : StartAt = record { act = record { 0 = 0 }; trans = record { 0 = 0 }; place = 0 } in
    let more : length (listed c.args.acts.now (take c.loop-start.start-index c.args.starts.now)) < length (listed c.args.acts.now c.args.starts.now) =
    listed_more c.args.acts.now c.args.starts.now c.loop-start.start-index d (omega arith) (sym c.is_listed.ensures ∙ c.if-is_listed.true) in
    absurd (omega (
      arith,
      fits,
      more,
      c.in_err-push.ensures.full,
      c.loop-start.invariant.room,
      ap length c.loop-start.invariant.made,
      length-append c.args.started.now.items (at_step c.args.step (listed c.args.acts.now (take c.loop-start.start-index c.args.starts.now))),
      length-map {B = ActId × ℕ} (listed c.args.acts.now (take c.loop-start.start-index c.args.starts.now)) (λ (s : StartAt). (s.act, c.args.step)),
      c.loop-start.started.ok.0,
      c.args.started.now.ok.0,
    ))
