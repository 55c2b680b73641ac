use Rattle.std.proofs.Common.{length, ◌∙◌}
use Rattle.wf_semantics.specs.Snapshot.{is_enabled}
use Rattle.wf_semantics.specs.Run.{snapshot_of, fired_in, next_state}
use Rattle.wf_semantics.proofs.Facts.{chart_of}
use Rattle.wf_semantics.proofs.Runs.{enabled_sources, snapshot_shows}
use Rattle.wf_model.proofs.Rows.{row_agree}
use Rattle.wf_central.specs.Sight.{seeing}
use Rattle.wf_model.specs.Bits.{bit}
use Rattle.wf_central.specs.Made.{AreBits, MakesWalk, seen_of}
use Rattle.wf_central.proofs.Sights.{shows, enabled_same, store_made, raised_made, starts_made}
use Rattle.wf_central.proofs.passes.pass_all.Goals as goal

pub effects-requires-clause-shows : goal.effects-requires-clause-shows
effects-requires-clause-shows c =
    let snap = c.args.snap.now in
    shows c.args.chart.now snap.active.now snap.store.now snap.counts.now snap.dones.now c.requires.sorts

pub returns-clause-step : goal.returns-clause-step
unfolding fired_in next_state
returns-clause-step c = λ state entries seen.
    let chart = c.args.chart.now in
    let snap = c.args.snap.now in
    let ok = chart_of chart c.requires.accepted in
    let enabled = is_enabled chart (snapshot_of chart state entries) in
    let bits : AreBits chart state.configuration enabled snap.active.now c.as_slice.result.now = record {
      configuration = seen.configuration;
      sources = enabled_sources chart (snapshot_of chart state entries) state.configuration (snapshot_shows chart state entries);
      bits = seen.active;
      tests = c.as_slice.ensures ∙ c.in_ok-ready.ensures
          ∙ row_agree (is_enabled chart (seeing (seen_of snap) (bit c.args.there.now))) enabled (length chart.transitions)
          (enabled_same chart ok state entries snap c.args.there.now seen);
    } in
    let walk : MakesWalk chart state.configuration enabled c.in_ok-after.after = c.in_ok-after.ensures.walk state.configuration enabled bits in
    let fired = c.as_slice-2.ensures ∙ walk.fired in
    record {
      fired = walk.fired;
      active = walk.active;
      store = store_made chart ok state entries snap c.args.there.now seen c.as_slice-2.result.now fired c.in_ok-effects.effects.store c.in_ok-effects.ensures.store;
      raised = raised_made chart ok state entries snap c.args.there.now seen c.as_slice-2.result.now fired c.in_ok-effects.effects.raised c.in_ok-effects.ensures.raised;
      starts = starts_made chart ok state entries snap c.args.there.now seen c.as_slice-2.result.now fired c.in_ok-effects.effects.starts c.in_ok-effects.ensures.starts;
    }
