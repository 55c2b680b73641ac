use Rattle.std.proofs.Common.{◌≡◌, ◌<◌, get_or, rules, length, map, ap, sym, ◌∙◌, unwrap_or, false}
use Rattle.std.specs.List.{range_with_len}
use Rattle.std.specs.Option.{option_map}
use Rattle.wf_semantics.specs.Snapshot.{is_ready, is_enabled}
use Rattle.wf_model.proofs.Rows.{row_more}
use Rattle.wf_scopes.proofs.Lines.{trans_get}
use Rattle.wf_central.specs.Sight.{seeing}
use Rattle.wf_model.specs.Bits.{bit}
use Rattle.wf_central.specs.Made.{seen_of}
use Rattle.wf_central.proofs.Sights.{shows, guard_read}
use Rattle.wf_central.proofs.passes.enabled_bits.Goals as goal

pub is_ready-requires : goal.is_ready-requires
is_ready-requires c =
    let snap = c.args.snap.now in
    let within : c.loop-transition.transition-index < length c.args.chart.now.transitions = search rules in
    let item : c.transition-item.result ≡ get_or c.args.chart.now.transitions c.loop-transition.transition-index c.transition-item.result = search rules in
    guard_read c.args.chart.now (seen_of snap) c.loop-transition.transition-index c.transition-item.result c.requires.accepted
    (shows c.args.chart.now snap.active.now snap.store.now snap.counts.now snap.dones.now c.requires.sorts)
    (trans_get c.args.chart.now c.loop-transition.transition-index c.transition-item.result within item)

pub loop-transition-preserved : goal.loop-transition-preserved
unfolding is_enabled
loop-transition-preserved c =
    let shown = seeing (seen_of c.args.snap.now) (bit c.args.there.now) in
    let within : c.loop-transition.transition-index < length c.args.chart.now.transitions = search rules in
    let item : c.transition-item.result ≡ get_or c.args.chart.now.transitions c.loop-transition.transition-index c.transition-item.result = search rules in
    c.in_ok-push.ensures.ok
    ∙ row_more (is_enabled c.args.chart.now shown) c.loop-transition.transition-index c.loop-transition.bits c.is_ready.result c.loop-transition.invariant
    (c.is_ready.ensures ∙ ap (λ o. unwrap_or (option_map (is_ready shown) o) false) (sym (trans_get c.args.chart.now c.loop-transition.transition-index c.transition-item.result within item)))

pub returns : goal.returns
returns c =
    let all : c.loop-transition.transition-index ≡ length c.args.chart.now.transitions = search rules in
    c.loop-transition.invariant ∙ ap (λ n. map (is_enabled c.args.chart.now (seeing (seen_of c.args.snap.now) (bit c.args.there.now))) (range_with_len 0 n)) all
