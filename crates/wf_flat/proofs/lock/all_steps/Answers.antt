use Rattle.std.proofs.Common.{◌≡◌, ◌∙◌, ◌∷◌, ℕ, [], All, length, map, get_or, refl, sym, ap, subst, arith, length-append}
use Rattle.std.specs.List.{range_with_len}
use Rattle.std.proofs.lemmas.List.Elements.{All-append, All-cons, All-nil}
use Rattle.wf_model.proofs.Rows.{row_at, row_more}
use Rattle.wf_parts.specs.declared.data.PartData.{PartData}
use Rattle.wf_views.specs.Views.{View}
use Rattle.wf_views.specs.OwnSteps.{own_update}
use Rattle.wf_views.specs.Laws.{IsViewOf}
use Rattle.wf_lockstep.specs.Shares.{outers_to}
use Rattle.wf_flat.specs.Locking.{HasFewStarts}
use Rattle.wf_flat.proofs.Locking.{list_row}
use Rattle.wf_flat.proofs.lock.all_steps.Goals as goal

pub bounded_step-requires : goal.bounded_step-requires
bounded_step-requires c =
    let parts = c.args.parts.now in
    let views = c.args.views.now in
    let u = c.loop-unit.unit in
    let p = c.index-parts-unit.result in
    let v = c.index-views-unit.result in
    let is = c.requires.are (λ k. get_or parts k p) (λ k. get_or views k v) (list_row parts (length parts) p refl) (list_row views (length parts) v c.requires.same) u c.loop-unit-test.true in
    subst (λ (x : PartData). IsViewOf x v) (sym c.index-parts-unit.is) (subst (λ (y : View). IsViewOf (get_or parts u p) y) (sym c.index-views-unit.is) is)

pub loop-unit-preserved : goal.loop-unit-preserved
loop-unit-preserved c =
    let n = length c.args.parts.now in
    let u = c.loop-unit.unit in
    let p = c.index-parts-unit.result in
    let v = c.index-views-unit.result in
    let x = c.in_ok-update.update in
    let now = c.in_ok-push.ensures.ok in
    let old = c.loop-unit.updates in
    record {
      steps = λ part view pe ve.
          now ∙ row_more (λ k. own_update (part k) c.args.step (view k) (outers_to k c.args.entries.now)) u old x (c.loop-unit.invariant.steps part view pe ve)
          (c.in_ok-update.ensures.step
          ∙ (λ j. own_update ((c.index-parts-unit.is ∙ row_at part n u p c.args.parts.now pe c.loop-unit-test.true) j) c.args.step
          ((c.index-views-unit.is ∙ row_at view n u v c.args.views.now ve c.loop-unit-test.true) j) (c.in_ok-outers.ensures j)));
      all = let long = length-append old (x ∷ []) in omega (arith, ap length now, c.loop-unit.invariant.all);
      few = subst (All HasFewStarts) (sym now) (All-append HasFewStarts old (x ∷ []) c.loop-unit.invariant.few (All-cons HasFewStarts x [] c.in_ok-update.ensures.few (All-nil HasFewStarts)));
    }

pub returns : goal.returns
returns c =
    let done : c.loop-unit.unit ≡ length c.args.parts.now = omega arith in
    record {
      steps = λ part view pe ve. c.loop-unit.invariant.steps part view pe ve ∙ ap (λ (m : ℕ). map (λ u. own_update (part u) c.args.step (view u) (outers_to u c.args.entries.now)) (range_with_len 0 m)) done;
      all = c.loop-unit.invariant.all ∙ done;
      few = c.loop-unit.invariant.few;
    }
