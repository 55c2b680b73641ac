use Rattle.std.proofs.Common.{◌∙◌, map, ap}
use Rattle.std.specs.List.{range_with_len}
use Rattle.std.proofs.lemmas.List.{take_all}
use Rattle.wf_model.specs.Limits.{max_transitions}
use Rattle.wf_parts.specs.Rows.{names}
use Rattle.wf_parts.proofs.Blocking.{names_more}
use Rattle.wf_parts.proofs.rows.numbers_of.Goals as goal

pub loop-id-init : goal.loop-id-init
loop-id-init c = c.new-numbers.ensures ∙ Rattle.std.proofs.Common.sym (Rattle.wf_masks.proofs.Words.none_from 0 max_transitions)

pub loop-id-preserved : goal.loop-id-preserved
loop-id-preserved c =
    names_more c.args.ids.now c.loop-id.id-index max_transitions _ c.loop-id.numbers c.set.new.self c.loop-id-test.true (c.requires c.loop-id.id-index _ c.loop-id-test.true) c.loop-id.invariant c.set.ensures

pub returns : goal.returns
returns c =
    c.loop-id.invariant
    ∙ ap (λ ids. map (names ids) (range_with_len 0 max_transitions)) (take_all c.loop-id.id-index c.args.ids.now c.loop-id-test.false)
