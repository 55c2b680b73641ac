use Rattle.std.proofs.Common.{◌≡◌, ◌∙◌, ◌*◌, map, sym, ap, subst, arith}
use Rattle.std.proofs.lemmas.List.{get_or-map}
use Rattle.wf_model.specs.Bits.{bit}
use Rattle.wf_masks.proofs.Words.{fired_more, passed_over, none_fire}
use Rattle.wf_parts.specs.declared.data.PartTransition.{PartTransition}
use Rattle.wf_parts.proofs.Blocking.{all_places, length_mapped}
use Rattle.wf_views.specs.OwnSteps.{is_ready_in}
use Rattle.wf_flat.specs.Firing.{CanFire}
use Rattle.wf_flat.specs.Sighted.{shown_by}
use Rattle.wf_flat.proofs.firing.enabled_bits.Goals as goal
use Rattle.wf_flat.proofs.firing.enabled_bits.Goals.{then-is_ready, else-is_ready}

pub is_ready-requires : goal.is_ready-requires
is_ready-requires g c =
    let can = subst (λ (t : PartTransition). CanFire (shown_by c.args.sight.now).seen t) (sym c.index-transitions-at.is) (c.requires.can c.loop-at.at c.index-transitions-at.result c.loop-at-test.true) in
    can.guard

pub loop-at-init : goal.loop-at-init
loop-at-init g c = c.new-ready.ensures ∙ none_fire (bit (map (is_ready_in (shown_by c.args.sight.now)) c.args.transitions.now)) (64 * g.row.W)

pub loop-at-preserved : goal.loop-at-preserved
loop-at-preserved g c =
    let test = is_ready_in (shown_by c.args.sight.now) in
    let at = c.loop-at.at in
    let trans = c.index-transitions-at.result in
    let f = bit (map test c.args.transitions.now) in
    let told : f at ≡ c.is_ready.result = get_or-map test c.args.transitions.now at trans _ c.loop-at-test.true ∙ ap test (sym c.index-transitions-at.is) ∙ sym c.is_ready.ensures in
    elim c.if-is_ready.branch [
      | then-is_ready w ↦ w.ready-is ∙ w.set.ensures ∙ fired_more f (64 * g.row.W) at c.loop-at.ready c.loop-at.invariant (omega (arith, c.loop-at-test.true, c.requires.long)) (told ∙ w.if-is_ready.true)
      | else-is_ready w ↦ w.ready-is ∙ passed_over f (64 * g.row.W) at c.loop-at.ready c.loop-at.invariant (told ∙ w.if-is_ready.false)
    ]

pub returns : goal.returns
returns g c =
    let test = is_ready_in (shown_by c.args.sight.now) in
    c.loop-at.invariant ∙ all_places (map test c.args.transitions.now) c.loop-at.at (64 * g.row.W) (omega (arith, c.loop-at-test.false, length_mapped test c.args.transitions.now))
