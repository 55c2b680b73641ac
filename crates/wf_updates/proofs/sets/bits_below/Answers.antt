use Rattle.std.proofs.Common.{◌∙◌, map, ap}
use Rattle.std.specs.List.{range_with_len}
use Rattle.std.proofs.lemmas.List.{take_all}
use Rattle.wf_updates.specs.Tables.{is_among}
use Rattle.wf_updates.proofs.NumberSets.{none_set, among_more}
use Rattle.wf_updates.proofs.sets.bits_below.Goals as goal

pub loop-number-init : goal.loop-number-init
loop-number-init c = c.in_ok-bits.ensures ∙ none_set c.args.count

pub loop-number-preserved : goal.loop-number-preserved
loop-number-preserved c =
    among_more c.args.numbers.now c.loop-number.number-index c.args.count c.loop-number.bits c.set.new.self c.loop-number-test.true c.loop-number.invariant c.set.ensures

pub returns : goal.returns
returns c =
    c.loop-number.invariant
    ∙ ap (λ numbers. map (is_among numbers) (range_with_len 0 c.args.count)) (take_all c.loop-number.number-index c.args.numbers.now c.loop-number-test.false)
