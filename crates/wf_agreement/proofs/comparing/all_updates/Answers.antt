use Rattle.std.proofs.Common.{◌≡◌, ◌∙◌, ◌+◌, ◌∷◌, [], ℕ, length, ap, ap₂, arith, length-append}
use Rattle.wf_parts.specs.declared.data.PartData.{PartData}
use Rattle.wf_parts.specs.Parts.{part_of}
use Rattle.wf_model.proofs.Rows.{row_more}
use Rattle.wf_histories.specs.Histories.{History, taken}
use Rattle.wf_agreement.specs.Own.{updates_to}
use Rattle.wf_agreement.specs.Senders.{all_updates}
use Rattle.wf_agreement.proofs.Sending.{as_many, is_made, own_part, own_past}
use Rattle.wf_agreement.proofs.comparing.all_updates.Goals as goal

pub bounds-histories-unit : goal.bounds-histories-unit
bounds-histories-unit c = omega (arith, c.loop-unit-test.true, as_many c.args.parts.now c.args.histories.now (part_of c.requires.chart) c.requires.past c.requires.of)

pub updates_and_next-requires : goal.updates_and_next-requires
updates_and_next-requires c =
    is_made c.args.parts.now c.args.histories.now c.requires c.loop-unit.unit c.loop-unit-test.true c.index-parts-unit.result c.index-histories-unit.result c.index-parts-unit.is c.index-histories-unit.is

pub loop-unit-preserved : goal.loop-unit-preserved
loop-unit-preserved c =
    let u = c.loop-unit.unit in
    let parts = c.args.parts.now in
    let histories = c.args.histories.now in
    let x = c.in_ok-updates_and_next.field-0 in
    let now = c.in_ok-push.ensures.ok in
    record {
      same = let long = length-append c.loop-unit.units (x ∷ []) in omega (arith, long, ap length now, c.loop-unit.invariant.same);
      units = λ part h of.
          now
          ∙ row_more (λ v. updates_to (part v) (h v) (taken (h v) + 1)) u c.loop-unit.units x (c.loop-unit.invariant.units part h of)
          (c.in_ok-updates_and_next.ensures
          ∙ ap₂ (λ (p : PartData) (q : History). updates_to p q (taken q + 1)) (own_part parts histories part h of u c.loop-unit-test.true c.index-parts-unit.result c.index-parts-unit.is)
          (own_past parts histories part h of u c.loop-unit-test.true c.index-histories-unit.result c.index-histories-unit.is));
    }

pub returns : goal.returns
returns c =
    let done : c.loop-unit.unit ≡ length c.args.parts.now = omega arith in
    record { same = c.loop-unit.invariant.same ∙ done; units = λ part h of. c.loop-unit.invariant.units part h of ∙ ap (λ (n : ℕ). all_updates n part h) done }
