use Rattle.std.proofs.Common.{map, ap, refl, ◌∙◌}
use Rattle.wf_model.specs.declared.chart.Chart.{Chart}
use Rattle.wf_model.specs.Tree.{all_states}
use Rattle.wf_semantics.specs.Configuration.{is_in}
use Rattle.wf_semantics.specs.Entry.{default_tree}
use Rattle.wf_central.specs.Kept.{Kept}
use Rattle.wf_central.proofs.Same.{first_is, first_of}
use Rattle.wf_central.proofs.state.CentralState.first.Goals as goal

pub returns-clause-state : goal.returns-clause-state
returns-clause-state c =
    let kept : Kept = record { active = c.in_ok-active.active; store = c.in_ok-store.store; raised = c.new.result; items = c.in_ok-items.items; taken = 0; tables = c.in_ok-scopes.scopes } in
    first_is c.args.checked.now c.chart.ensures.accepted kept
    (c.in_ok-active.ensures ∙ ap (λ (chart : Chart). map (λ z. is_in z (default_tree chart 0)) (all_states chart)) c.chart.ensures.same)
    (c.in_ok-store.ensures ∙ ap (λ (chart : Chart). map (λ x. x.first) chart.vars) c.chart-2.ensures.same)
    c.new.ensures c.in_ok-items.ensures.items refl

pub returns-clause-of : goal.returns-clause-of
returns-clause-of c =
    let kept : Kept = record { active = c.in_ok-active.active; store = c.in_ok-store.store; raised = c.new.result; items = c.in_ok-items.items; taken = 0; tables = c.in_ok-scopes.scopes } in
    first_of c.args.checked.now c.chart.ensures.accepted kept
    (c.in_ok-active.ensures ∙ ap (λ (chart : Chart). map (λ z. is_in z (default_tree chart 0)) (all_states chart)) c.chart.ensures.same)
    (c.in_ok-store.ensures ∙ ap (λ (chart : Chart). map (λ x. x.first) chart.vars) c.chart-2.ensures.same)
    c.in_ok-items.ensures.of c.in_ok-items.ensures.items c.in_ok-scopes.ensures
