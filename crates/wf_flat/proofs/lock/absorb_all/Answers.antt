use Rattle.std.proofs.Common.{◌∙◌, ◌<◌, ◌≢◌, length, refl, sym, subst, arith}
use Rattle.std.proofs.lemmas.List.{length-set, get_or-set_other}
use Rattle.wf_model.proofs.Rows.{row_at}
use Rattle.wf_views.specs.Absorbing.{absorbed}
use Rattle.wf_flat.specs.Locking.{HasRoomFor}
use Rattle.wf_flat.proofs.Locking.{none_yet, one_more, all_done}
use Rattle.wf_flat.proofs.lock.absorb_all.Goals as goal

pub absorb-requires : goal.absorb-requires
absorb-requires c =
    let v = c.index_mut.result.now in
    let k = c.loop-unit.unit in
    let is = c.index_mut.ensures.value ∙ c.loop-unit.invariant.rest k v (omega arith) in
    let within : k < length c.args.views.now.items = omega (arith, c.requires.same, c.loop-unit-test.true) in
    subst (HasRoomFor c.args.updates.now) (sym is) (c.requires.room k v within)

pub loop-unit-init : goal.loop-unit-init
loop-unit-init c =
    record {
      same = c.requires.same;
      rest = λ k d le. refl;
      views = λ part view pe ve. ve ∙ none_yet (λ u. absorbed (part u) (view u) c.args.updates.now) view (length c.args.parts.now);
    }

pub loop-unit-preserved : goal.loop-unit-preserved
loop-unit-preserved c =
    let i = c.loop-unit.unit in
    let p = c.index-parts-unit.result in
    let v = c.index_mut.result.now in
    let old = c.loop-unit.views.items in
    let x = c.absorb.new.self in
    let n = length c.args.parts.now in
    let is = c.index_mut.ensures.value ∙ c.loop-unit.invariant.rest i v (omega arith) in
    record {
      same = length-set old i x ∙ c.loop-unit.invariant.same;
      rest = λ k d le. let other : k ≢ i = omega arith in get_or-set_other old i k x d other ∙ c.loop-unit.invariant.rest k d (omega arith);
      views = λ part view pe ve.
          one_more (λ u. absorbed (part u) (view u) c.args.updates.now) view n i x old (c.loop-unit.invariant.views part view pe ve) c.loop-unit-test.true
          (c.in_ok-absorb.ensures.ok ∙ (λ j. absorbed ((c.index-parts-unit.is ∙ row_at part n i p c.args.parts.now pe c.loop-unit-test.true) j) ((is ∙ row_at view n i v c.args.views.now.items ve c.loop-unit-test.true) j) c.args.updates.now));
    }

pub returns : goal.returns
returns c =
    record {
      same = c.loop-unit.invariant.same;
      views = λ part view pe ve. c.loop-unit.invariant.views part view pe ve ∙ all_done (λ u. absorbed (part u) (view u) c.args.updates.now) view (length c.args.parts.now) c.loop-unit.unit c.loop-unit-test.false;
    }
