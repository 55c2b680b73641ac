use Rattle.std.proofs.Common.{◌≡◌, ◌∙◌, map, length, sym, ap, arith}
use Rattle.std.specs.List.{range_with_len}
use Rattle.std.proofs.lemmas.Result.{IfOk-weaker}
use Rattle.wf_model.specs.declared.chart.Chart.{Chart}
use Rattle.wf_parts.specs.Parts.{part_of}
use Rattle.wf_lockstep.specs.Shares.{share_of}
use Rattle.wf_lockstep.specs.Lock.{lock_update, outers_by}
use Rattle.wf_model.proofs.Few.{few_units}
use Rattle.wf_projection.proofs.Projected.{parts_long, row_of, projected}
use Rattle.wf_projection.proofs.contributions.shares.Goals as goal

pub prove-unreachable-requires : goal.prove-unreachable-requires
prove-unreachable-requires c =
    c.if-prove.true (parts_long c.args.checked.now c.args.parts.now c.requires.parts ∙ sym (c.len.ensures ∙ ap (λ (chart : Chart). length chart.units) c.chart-chart.ensures.same))

pub lockstep-requires-clause-units : goal.lockstep-requires-clause-units
lockstep-requires-clause-units c =
    omega (arith, parts_long c.args.checked.now c.args.parts.now c.requires.parts, few_units c.args.checked.now c.chart-chart.ensures.accepted)

pub returns : goal.returns
returns c =
    let chart = c.args.checked.now in
    let parts = c.args.parts.now in
    let outer = c.args.outer.now in
    let n = length parts in
    IfOk-weaker c.lockstep.result (λ steps. steps ≡ map (λ j. map (lock_update n (part_of chart) (outers_by outer) j) (range_with_len 0 n)) (range_with_len 0 (length outer)))
    (λ steps. steps ≡ map (λ j. map (λ u. share_of chart outer u j) (range_with_len 0 (length chart.units))) (range_with_len 0 (length outer)))
    (λ steps e. e ∙ projected chart outer n (parts_long chart parts c.requires.parts) c.chart-chart.ensures.accepted c.requires.run c.requires.first c.requires.order)
    (c.lockstep.ensures (part_of chart) (row_of chart parts c.requires.parts))
