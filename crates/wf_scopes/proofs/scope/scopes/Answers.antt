use Rattle.std.proofs.Common.{◌≡◌, ◌<◌, get_or, length, rules, ◌∙◌, ap, refl}
use Rattle.wf_model.specs.Tree.{scope}
use Rattle.wf_model.specs.Ids.{state_id}
use Rattle.wf_scopes.specs.Tables.{scopes_of}
use Rattle.wf_model.proofs.Rows.{row_more}
use Rattle.wf_scopes.proofs.Lines.{source_in, target_in, source_read, target_read}
use Rattle.wf_scopes.proofs.scope.scopes.Goals as goal

pub scope_of-requires-clause-source : goal.scope_of-requires-clause-source
scope_of-requires-clause-source c =
    source_in c.args.chart.now c.loop-transition.transition-index c.transition-item.result c.requires.accepted (search rules) (search rules)

pub scope_of-requires-clause-target : goal.scope_of-requires-clause-target
scope_of-requires-clause-target c =
    target_in c.args.chart.now c.loop-transition.transition-index c.transition-item.result c.requires.accepted (search rules) (search rules)

pub loop-transition-preserved : goal.loop-transition-preserved
loop-transition-preserved c =
    let within : c.loop-transition.transition-index < length c.args.chart.now.transitions = search rules in
    let item : c.transition-item.result ≡ get_or c.args.chart.now.transitions c.loop-transition.transition-index c.transition-item.result = search rules in
    let from = source_read c.args.chart.now c.loop-transition.transition-index c.transition-item.result within item in
    let to = target_read c.args.chart.now c.loop-transition.transition-index c.transition-item.result within item in
    c.in_ok-push.ensures.ok
    ∙ row_more (λ t. state_id (scope c.args.chart.now t)) c.loop-transition.transition-index c.loop-transition.table c.scope_of.result c.loop-transition.invariant
    (ap state_id (c.scope_of.ensures ∙ rw (← from, ← to) refl))

pub returns : goal.returns
unfolding scopes_of
returns c = search rules
