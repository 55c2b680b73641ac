use Rattle.std.proofs.Common.{◌≡◌, ◌<◌, List, map, length, get_or, [], ◌∷◌, ◌++◌, sym, ◌∙◌, ap, ap₂, arith, rules}
use Rattle.std.proofs.lemmas.List.{map_more, take_all}
use Rattle.wf_model.specs.declared.ids.VarId.{VarId}
use Rattle.wf_model.specs.declared.value.Sort.{Sort}
use Rattle.wf_model.specs.declared.chart.Activity.{Activity}
use Rattle.wf_activities.specs.Stock.{with_sorts, wanted_of}
use Rattle.wf_activities.proofs.tables.wanted_outputs.Goals as goal

pub loop-act-preserved : goal.loop-act-preserved
loop-act-preserved c =
    let lt : c.loop-act.act-index < length c.as_slice-act-items.result.now = search rules in
    let item : c.act-item.result ≡ get_or c.as_slice-act-items.result.now c.loop-act.act-index c.act-item.result = search rules in
    c.in_ok-push.ensures.ok
    ∙ ap₂ (λ (l : List (List (VarId × Sort))) (p : List (VarId × Sort)). l ++ p ∷ []) c.loop-act.invariant
    (c.in_ok-pairs.ensures ∙ ap (with_sorts c.args.chart.now) c.as_slice.ensures ∙ ap (λ (act : Activity). with_sorts c.args.chart.now act.outputs) item)
    ∙ sym (map_more (λ (act : Activity). with_sorts c.args.chart.now act.outputs) c.as_slice-act-items.result.now c.loop-act.act-index c.act-item.result lt)

pub returns : goal.returns
unfolding wanted_of
returns c =
    c.loop-act.invariant
    ∙ ap (map (λ (act : Activity). with_sorts c.args.chart.now act.outputs)) (take_all c.loop-act.act-index c.as_slice-act-items.result.now (omega arith) ∙ c.as_slice-act-items.ensures)
