use Rattle.std.proofs.Common.{◌≡◌, ◌==◌, refl}
use Rattle.std.specs.List.{list_any}
use Rattle.std.proofs.lemmas.Result.{IfOk-weaker}
use Rattle.wf_model.specs.Bits.{bit}
use Rattle.wf_parts.specs.declared.data.KnownState.{KnownState}
use Rattle.wf_updates.specs.Tables.{is_among}
use Rattle.wf_updates.proofs.NumberSets.{told}
use Rattle.wf_updates.proofs.sets.known_state_set.Goals as goal

pub returns : goal.returns
returns c =
    let items = c.args.known.now in
    IfOk-weaker c.set_of.result (λ bits. bit bits ≡ is_among c.as_slice.result.now) (λ bits. bit bits ≡ (λ k. list_any (λ (it : KnownState). it.id.0 == k) items))
    (λ bits set. told (λ (it : KnownState). it.id.0) items items c.in_ok-numbers.numbers.items c.as_slice.result.now bits refl c.in_ok-numbers.ensures c.as_slice.ensures.value set) c.set_of.ensures
