use Rattle.std.proofs.Common.{◌≡◌, ◌∙◌, [], sym}
use Rattle.std.proofs.lemmas.Result.{IfOk-weaker}
use Rattle.wf_model.specs.Bits.{bit}
use Rattle.wf_views.specs.Absorbing.{is_raised}
use Rattle.wf_updates.specs.After.{events_among}
use Rattle.wf_updates.proofs.Tabled.{events_same, none_raised}
use Rattle.wf_updates.proofs.after.raised_after.Goals as goal

pub returns : goal.returns
returns c =
    let known = c.args.known.now in
    IfOk-weaker c.events_among.result (λ ids. ids ≡ events_among known (bit c.in_ok-raised.raised)) (λ ids. ids ≡ events_among known (is_raised c.args.all.now))
    (λ ids e. e
    ∙ events_same known c.args.all.now c.in_ok-raised.raised c.in_ok-numbers.numbers.items c.as_slice.result.now c.past_numbers.result
    c.in_ok-numbers.ensures c.as_slice.ensures.value c.past_numbers.ensures c.in_ok-raised.ensures)
    c.events_among.ensures

pub returns-then-is_empty : goal.returns-then-is_empty
returns-then-is_empty c = c.new.ensures ∙ none_raised c.args.known.now c.args.all.now (sym c.in_ok-gathered.ensures ∙ c.is_empty.ensures.0 c.if-is_empty.true)
