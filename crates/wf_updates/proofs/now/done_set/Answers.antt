use Rattle.std.proofs.Common.{◌≡◌, nat_lt}
use Rattle.std.proofs.lemmas.Result.{IfOk-weaker}
use Rattle.wf_model.specs.Bits.{bit}
use Rattle.wf_semantics.specs.Items.{done_count}
use Rattle.wf_views.specs.Views.{completions_in}
use Rattle.wf_updates.specs.Tables.{is_among}
use Rattle.wf_updates.proofs.Pairs.{done_told}
use Rattle.wf_updates.proofs.now.done_set.Goals as goal

pub returns : goal.returns
returns c =
    let cs = completions_in c.args.next.now in
    IfOk-weaker c.set_of.result (λ bits. bit bits ≡ is_among c.as_slice.result.now) (λ bits. bit bits ≡ (λ a. nat_lt 0 (done_count a cs)))
    (λ bits set. done_told cs c.in_ok-acts.acts.items c.as_slice.result.now bits c.in_ok-acts.ensures c.as_slice.ensures.value set) c.set_of.ensures
