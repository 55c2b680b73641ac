use Rattle.std.proofs.Common.{◌≡◌, ◌∙◌, ◌*◌, map, sym, subst, arith, lit≤}
use Rattle.wf_model.specs.Bits.{bit}
use Rattle.wf_model.specs.Limits.{max_transitions}
use Rattle.wf_masks.proofs.Words.{fired_more, passed_over, none_fire}
use Rattle.wf_parts.specs.declared.data.PartTransition.{PartTransition}
use Rattle.wf_parts.specs.Rows.{names, IsNumbered}
use Rattle.wf_parts.proofs.Blocking.{named_at, all_places, length_mapped}
use Rattle.wf_parts.proofs.rows.row_of.Goals as goal
use Rattle.wf_parts.proofs.rows.row_of.Goals.{then-has, else-has}

pub has-requires : goal.has-requires
has-requires g c = (lit≤ tt, (subst IsNumbered (sym c.index-transitions-at.is) (c.requires.all c.loop-at.at c.index-transitions-at.result c.loop-at-test.true)).here)

pub loop-at-init : goal.loop-at-init
loop-at-init g c = c.new-row.ensures ∙ none_fire (bit (map (λ (other : PartTransition). names c.args.trans.now.blockers other.id.0) c.args.transitions.now)) (64 * g.row.W)

pub loop-at-preserved : goal.loop-at-preserved
loop-at-preserved g c =
    let ids = c.args.trans.now.blockers in
    let transitions = c.args.transitions.now in
    let at = c.loop-at.at in
    let other = c.index-transitions-at.result in
    let f = bit (map (λ (other : PartTransition). names ids other.id.0) transitions) in
    let is = subst IsNumbered (sym c.index-transitions-at.is) (c.requires.all at other c.loop-at-test.true) in
    let told : f at ≡ c.has.result =
    named_at ids c.as_slice.result.now transitions c.numbers_of-blocking.result at max_transitions other c.as_slice.ensures c.loop-at-test.true c.index-transitions-at.is is.here c.numbers_of-blocking.ensures
    ∙ sym c.has.ensures in
    elim c.if-has.branch [
      | then-has w ↦ w.row-is ∙ w.set.ensures ∙ fired_more f (64 * g.row.W) at c.loop-at.row c.loop-at.invariant (omega (arith, c.loop-at-test.true, c.requires.long)) (told ∙ w.if-has.true)
      | else-has w ↦ w.row-is ∙ passed_over f (64 * g.row.W) at c.loop-at.row c.loop-at.invariant (told ∙ w.if-has.false)
    ]

pub returns : goal.returns
returns g c =
    let transitions = c.args.transitions.now in
    let truths = map (λ (other : PartTransition). names c.args.trans.now.blockers other.id.0) transitions in
    c.loop-at.invariant ∙ all_places truths c.loop-at.at (64 * g.row.W) (omega (arith, c.loop-at-test.false, length_mapped (λ (other : PartTransition). names c.args.trans.now.blockers other.id.0) transitions))
