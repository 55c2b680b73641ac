-- Inner. A unit on its way through its history.
use Rattle.std.specs.Prelude.{ℕ, suc, take, sum}
use Rattle.wf_parts.specs.declared.data.PartData.{PartData}
use Rattle.wf_histories.specs.Histories.{History, seals, local, local_update}
use Rattle.wf_agreement.specs.Own.{updates_to}
use Rattle.wf_agreement.specs.declared.walk.Walk.{Walk}

-- after j Turns
unfoldable pub walk_at : PartData → History → ℕ → Walk
walk_at part h j = record { view = local part h j; updates = updates_to part h j; next = local_update part h (suc j); sealed = sum (take j (seals h)) }
