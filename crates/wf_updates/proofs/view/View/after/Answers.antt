use Rattle.std.proofs.Common.{◌∙◌, ◌==◌, ◌+◌, ◌-◌, ℕ, List, map, filter, ap, ap₂}
use Rattle.std.specs.List.{list_any}
use Rattle.wf_model.specs.declared.ids.StateId.{StateId}
use Rattle.wf_model.specs.declared.ids.ActId.{ActId}
use Rattle.wf_model.specs.declared.outer.Output.{Output}
use Rattle.wf_model.specs.declared.outer.Entry.{Entry}
use Rattle.wf_parts.specs.declared.data.KnownState.{KnownState}
use Rattle.wf_parts.specs.declared.data.KnownEvent.{KnownEvent}
use Rattle.wf_parts.specs.declared.data.PartData.{PartData}
use Rattle.wf_parts.specs.Peers.{Knowledge}
use Rattle.wf_semantics.specs.Items.{done_count}
use Rattle.wf_views.specs.OwnSteps.{differs}
use Rattle.wf_views.specs.Knowledge.{known_to, cut_entries}
use Rattle.wf_views.specs.Views.{View, after_outputs, outputs_in, completions_in}
use Rattle.wf_views.specs.Absorbing.{is_flipped, is_raised, value_after, start_count, starts_in, writes_in, entries_in}
use Rattle.wf_updates.proofs.Making.{absorbed_made}
use Rattle.wf_updates.proofs.view.View.after.Goals as goal

pub returns : goal.returns
returns c =
    let all = c.args.all.now in
    let given = c.data-data.ensures.same in
    let before = c.as_slice-before.ensures ∙ ap (λ (x : View). x.next) c.self.view_is in
    absorbed_made c.args.part.now c.args.self.now all c.in_ok-states.states c.in_ok-vars.vars c.in_ok-raised.raised c.in_ok-unclosed.unclosed c.in_ok-next.next
    (c.in_ok-states.ensures
    ∙ ap₂ (λ (known : List KnownState) (ids : List StateId). map (λ known. known.id) (filter (λ known. differs (list_any (λ id. id.0 == known.id.0) ids) (is_flipped all known.id.0)) known))
    (c.as_slice.ensures ∙ ap (λ (p : PartData). p.states) given) (c.as_slice-2.ensures ∙ ap (λ (x : View). x.states) c.self.view_is))
    (c.in_ok-vars.ensures
    ∙ ap₂ (λ (vars : List Output) (next : List Entry). map (λ o. let r : Output = record { var = o.var; val = value_after (writes_in all) o.var.0 (after_outputs o.var.0 (outputs_in next) o.val) } in r) vars)
    (c.as_slice-3.ensures ∙ ap (λ (x : View). x.vars) c.self.view_is) before)
    (c.in_ok-raised.ensures ∙ ap (λ (known : List KnownEvent). map (λ known. known.id) (filter (λ known. is_raised all known.id.0) known)) (c.as_slice-4.ensures ∙ ap (λ (p : PartData). p.events) given))
    (c.in_ok-unclosed.ensures
    ∙ ap₂ (λ (unclosed : List (ActId × ℕ)) (next : List Entry). map {B = ActId × ℕ} (λ a. (a.0, a.1 - done_count a.0.0 (completions_in next) + start_count a.0.0 (starts_in all))) unclosed)
    (c.as_slice-5.ensures ∙ ap (λ (x : View). x.unclosed) c.self.view_is) before)
    (c.in_ok-next.ensures ∙ ap (λ (known : Knowledge). cut_entries known (entries_in all)) (ap known_to given))
