use Rattle.std.proofs.Common.{◌≡◌, ◌∙◌, ◌==◌, ◌-◌, ℕ, List, Option, find, ap, ap₂}
use Rattle.std.specs.Option.{option_map}
use Rattle.std.proofs.lemmas.Result.{IfOk-weaker}
use Rattle.wf_model.specs.declared.ids.ActId.{ActId}
use Rattle.wf_model.specs.declared.outer.Entry.{Entry}
use Rattle.wf_semantics.specs.Items.{done_count}
use Rattle.wf_views.specs.Views.{View, open_now, completions_in}
use Rattle.wf_updates.specs.Tables.{entry}
use Rattle.wf_updates.proofs.view.View.open_counts_now.Goals as goal

pub returns : goal.returns
returns c =
    let told = λ (unclosed : List (ActId × ℕ)) (next : List Entry). let f : ℕ → Option ℕ = λ a. option_map (λ c. c.1 - done_count c.0.0 (completions_in next)) (find (λ c. c.0.0 == a) unclosed) in f in
    IfOk-weaker c.counts_now.result (λ table. entry table ≡ told c.as_slice.result.now c.as_slice-2.result.now) (λ table. entry table ≡ open_now c.args.self.now)
    (λ table e. e ∙ ap₂ told (c.as_slice.ensures ∙ ap (λ (x : View). x.unclosed) c.self.view_is) (c.as_slice-2.ensures ∙ ap (λ (x : View). x.next) c.self.view_is))
    c.counts_now.ensures
