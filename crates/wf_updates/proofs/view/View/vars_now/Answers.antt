use Rattle.std.proofs.Common.{◌≡◌, ◌∙◌, ◌==◌, ℕ, List, Option, find, ap, ap₂}
use Rattle.std.specs.Option.{option_map}
use Rattle.std.proofs.lemmas.Result.{IfOk-weaker}
use Rattle.wf_model.specs.declared.value.Val.{Val}
use Rattle.wf_model.specs.declared.outer.Output.{Output}
use Rattle.wf_model.specs.declared.outer.Entry.{Entry}
use Rattle.wf_views.specs.Views.{View, var_now, after_outputs, outputs_in}
use Rattle.wf_updates.specs.Tables.{entry}
use Rattle.wf_updates.proofs.view.View.vars_now.Goals as goal

pub returns : goal.returns
returns c =
    let told = λ (vars : List Output) (next : List Entry). let f : ℕ → Option Val = λ x. option_map (λ o. after_outputs o.var.0 (outputs_in next) o.val) (find (λ o. o.var.0 == x) vars) in f in
    IfOk-weaker c.values_now.result (λ table. entry table ≡ told c.as_slice.result.now c.as_slice-2.result.now) (λ table. entry table ≡ var_now c.args.self.now)
    (λ table e. e ∙ ap₂ told (c.as_slice.ensures ∙ ap (λ (x : View). x.vars) c.self.view_is) (c.as_slice-2.ensures ∙ ap (λ (x : View). x.next) c.self.view_is))
    c.values_now.ensures
