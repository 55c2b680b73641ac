use Rattle.std.proofs.Common.{◌≡◌, refl, ◌==◌}
use Rattle.std.specs.List.{list_any}
use Rattle.std.proofs.lemmas.Result.{IfOk-weaker}
use Rattle.wf_model.specs.Bits.{bit}
use Rattle.wf_model.specs.declared.ids.StateId.{StateId}
use Rattle.wf_updates.specs.Tables.{is_among}
use Rattle.wf_updates.proofs.NumberSets.{told}
use Rattle.wf_updates.proofs.after.state_set.Goals as goal

pub returns : goal.returns
returns c =
    let ids = c.args.ids.now in
    IfOk-weaker c.set_of.result (λ bits. bit bits ≡ is_among c.as_slice.result.now) (λ bits. bit bits ≡ (λ s. list_any (λ id. id.0 == s) ids))
    (λ bits set. told (λ (it : StateId). it.0) ids ids c.in_ok-numbers.numbers.items c.as_slice.result.now bits refl c.in_ok-numbers.ensures c.as_slice.ensures.value set) c.set_of.ensures
