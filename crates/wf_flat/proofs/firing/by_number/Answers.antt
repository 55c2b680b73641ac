use Rattle.std.proofs.Common.{◌≡◌, ◌∙◌}
use Rattle.std.proofs.lemmas.Result.{IfOk-weaker}
use Rattle.wf_updates.specs.Tables.{entry, given_by}
use Rattle.wf_flat.specs.Firing.{holds, says_of}
use Rattle.wf_flat.proofs.Loops.{says_told}
use Rattle.wf_flat.proofs.firing.by_number.Goals as goal

pub returns : goal.returns
returns c = λ test same.
    IfOk-weaker c.table_of.result (λ table. entry table ≡ given_by c.as_slice.result.now) (λ table. holds table ≡ says_of test c.args.transitions.now)
    (λ table told. says_told test c.args.transitions.now table c.as_slice.result.now (c.as_slice.ensures.value ∙ c.in_ok-pairs.ensures test same) told) c.table_of.ensures
