use Rattle.std.proofs.Common.{◌≡◌, map}
use Rattle.std.specs.List.{range_with_len}
use Rattle.std.proofs.lemmas.Result.{IfOk-weaker}
use Rattle.wf_model.specs.Bits.{bit}
use Rattle.wf_updates.specs.Tables.{is_among}
use Rattle.wf_updates.proofs.NumberSets.{set_told}
use Rattle.wf_updates.proofs.sets.set_of.Goals as goal

pub returns : goal.returns
returns c =
    let numbers = c.args.numbers.now in
    IfOk-weaker c.bits_below.result (λ bits. bits ≡ map (is_among numbers) (range_with_len 0 c.past_numbers.result)) (λ bits. bit bits ≡ is_among numbers)
    (λ bits row. set_told numbers c.past_numbers.result bits c.past_numbers.ensures row) c.bits_below.ensures
