use Rattle.std.proofs.Common.{◌≡◌, ◌++◌, ◌∙◌, List, codes, filter, map, ap}
use Rattle.std.proofs.lemmas.Result.{on_ok_weaker}
use Rattle.wf_parts.specs.declared.data.KnownState.{KnownState}
use Rattle.wf_words.specs.Names.{state_name}
use Rattle.wf_parts.specs.Known.{watches_state}
use Rattle.wf_partition.specs.SplitText.{bit, names_line}
use Rattle.wf_partition.proofs.UnitTexts.{filter_same}
use Rattle.wf_partition.proofs.split.append_watched.Goals as goal

pub returns : goal.returns
returns c =
    let text = λ (states : List KnownState). c.args.text.now ++ names_line (codes "states") (map (λ k. state_name c.args.chart.now k.id) states) in
    let told =
    filter_same (λ k. bit c.args.bits.now k.id.0) (λ k. watches_state c.args.chart.now c.args.part.now.unit.0 k.id.0) c.args.part.now.states c.requires in
    on_ok_weaker c.append_states.result
    (λ (e : c.append_states.new.text ≡ text (filter (λ k. bit c.args.bits.now k.id.0) c.as_slice.result.now)).
    e ∙ ap (λ (states : List KnownState). text (filter (λ k. bit c.args.bits.now k.id.0) states)) c.as_slice.ensures ∙ ap text told)
    c.append_states.ensures
