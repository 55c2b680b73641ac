use Rattle.std.proofs.Common.{◌≡◌, ◌==◌, find}
use Rattle.std.specs.Option.{option_map}
use Rattle.std.proofs.lemmas.Result.{IfOk-weaker}
use Rattle.wf_views.specs.Views.{after_outputs, outputs_in}
use Rattle.wf_updates.specs.Tables.{entry, given_by}
use Rattle.wf_updates.proofs.Pairs.{values_told}
use Rattle.wf_updates.proofs.now.values_now.Goals as goal

pub returns : goal.returns
returns c =
    let vars = c.args.vars.now in
    let next = c.args.next.now in
    IfOk-weaker c.table_of.result (λ table. entry table ≡ given_by c.as_slice-2.result.now) (λ table. entry table ≡ (λ x. option_map (λ o. after_outputs o.var.0 (outputs_in next) o.val) (find (λ o. o.var.0 == x) vars)))
    (λ table told. values_told vars next c.in_ok-values.values c.as_slice.result.now c.in_ok-pairs.pairs.items c.as_slice-2.result.now table
    c.in_ok-values.ensures c.as_slice.ensures c.in_ok-pairs.ensures c.as_slice-2.ensures.value told) c.table_of.ensures
