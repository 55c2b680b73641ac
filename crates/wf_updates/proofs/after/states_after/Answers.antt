use Rattle.std.proofs.Common.{◌≡◌, ◌∙◌}
use Rattle.std.proofs.lemmas.Result.{IfOk-weaker}
use Rattle.wf_model.specs.Bits.{bit}
use Rattle.wf_updates.specs.After.{moved, states_after}
use Rattle.wf_updates.proofs.Tabled.{states_same}
use Rattle.wf_updates.proofs.after.states_after.Goals as goal

pub returns : goal.returns
returns c =
    let known = c.args.known.now in
    IfOk-weaker c.states_by_flips.result (λ ids. ids ≡ moved known (bit c.in_ok-inside.inside) (bit c.in_ok-flipped.flipped)) (λ ids. ids ≡ states_after known c.args.before.now c.args.all.now)
    (λ ids e. e
    ∙ states_same known c.args.before.now c.args.all.now c.in_ok-inside.inside c.in_ok-flipped.flipped c.in_ok-numbers.numbers.items c.as_slice.result.now c.past_numbers.result
    c.in_ok-inside.ensures c.in_ok-numbers.ensures c.as_slice.ensures.value c.past_numbers.ensures c.in_ok-flipped.ensures)
    c.states_by_flips.ensures
