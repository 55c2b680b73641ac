use Rattle.std.proofs.Common.{length, ap, ◌∙◌, arith}
use Rattle.wf_effects.specs.Numbers.{numbers}
use Rattle.wf_effects.specs.Performing.{nothing_yet, events_of}
use Rattle.wf_model.proofs.Few.{few_events}
use Rattle.wf_effects.proofs.Effecting.{store_is, raised_is, raised_size, starts_is, sorts_is}
use Rattle.wf_effects.proofs.firing.effects.Goals as goal

pub events-requires : goal.events-requires
events-requires g c =
    let first = c.in_ok-gathered.ensures ∙ ap (nothing_yet c.args.store.now) c.len.ensures in
    omega (
      arith,
      few_events c.args.chart.now c.requires.accepted,
      raised_size c.args.chart.now (g.S.Snapshot.seen c.args.snap.now) (numbers c.args.fired.now) c.args.store.now _ _ first c.in_ok-fire_all.ensures,
      ap length c.as_slice.ensures,
    )

pub returns-clause-store : goal.returns-clause-store
returns-clause-store g c =
    let first = c.in_ok-gathered.ensures ∙ ap (nothing_yet c.args.store.now) c.len.ensures in
    store_is c.args.chart.now (g.S.Snapshot.seen c.args.snap.now) (numbers c.args.fired.now) c.args.store.now _ _ first c.in_ok-fire_all.ensures

pub returns-clause-raised : goal.returns-clause-raised
returns-clause-raised g c =
    let first = c.in_ok-gathered.ensures ∙ ap (nothing_yet c.args.store.now) c.len.ensures in
    c.in_ok-raised.ensures ∙ ap events_of c.as_slice.ensures
    ∙ raised_is c.args.chart.now (g.S.Snapshot.seen c.args.snap.now) (numbers c.args.fired.now) c.args.store.now _ _ first c.in_ok-fire_all.ensures

pub returns-clause-starts : goal.returns-clause-starts
returns-clause-starts g c =
    let first = c.in_ok-gathered.ensures ∙ ap (nothing_yet c.args.store.now) c.len.ensures in
    starts_is c.args.chart.now (g.S.Snapshot.seen c.args.snap.now) (numbers c.args.fired.now) c.args.store.now _ _ first c.in_ok-fire_all.ensures

pub returns-clause-sorts : goal.returns-clause-sorts
returns-clause-sorts g c =
    let first = c.in_ok-gathered.ensures ∙ ap (nothing_yet c.args.store.now) c.len.ensures in
    sorts_is c.args.chart.now (g.S.Snapshot.seen c.args.snap.now) (numbers c.args.fired.now) c.args.store.now _ _ first c.in_ok-fire_all.ensures c.requires.shows c.requires.accepted c.requires.sorts
