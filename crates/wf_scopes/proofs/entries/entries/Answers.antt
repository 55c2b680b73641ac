use Rattle.std.proofs.Common.{◌≡◌, ◌<◌, arith, get_or, length, ◌∙◌, ap, sym, rules}
use Rattle.wf_model.specs.declared.ids.StateId.{StateId}
use Rattle.wf_model.specs.Tree.{scope}
use Rattle.wf_model.specs.Ids.{state_id}
use Rattle.wf_semantics.proofs.Facts.{chart_of}
use Rattle.wf_scopes.specs.Tables.{scopes_of, entries_of, entry_row}
use Rattle.wf_model.proofs.Rows.{row_at, row_len, row_more}
use Rattle.wf_scopes.proofs.Lines.{target_read}
use Rattle.wf_scopes.proofs.entries.entries.Goals as goal

pub bounds-scopes-t : goal.bounds-scopes-t
unfolding scopes_of
bounds-scopes-t c =
    let within : c.loop-t.t < length c.args.chart.now.transitions = search rules in
    omega (arith, row_len (λ t. state_id (scope c.args.chart.now t)) (length c.args.chart.now.transitions) c.args.scopes.now c.requires.scoped)

pub overflow_cast-t : goal.overflow_cast-t
overflow_cast-t c =
    let within : c.loop-t.t < length c.args.chart.now.transitions = search rules in
    omega (arith, (chart_of c.args.chart.now c.requires.accepted).few_transitions)

pub row_of-requires-clause-scope : goal.row_of-requires-clause-scope
unfolding scopes_of
row_of-requires-clause-scope c =
    let within : c.loop-t.t < length c.args.chart.now.transitions = search rules in
    ap (λ (s : StateId). s.0) (row_at (λ t. state_id (scope c.args.chart.now t)) (length c.args.chart.now.transitions) c.loop-t.t _ c.args.scopes.now c.requires.scoped within)

pub row_of-requires-clause-target : goal.row_of-requires-clause-target
row_of-requires-clause-target c =
    let within : c.loop-t.t < length c.args.chart.now.transitions = search rules in
    let item : c.transition-item.result ≡ get_or c.args.chart.now.transitions c.loop-t.t c.transition-item.result = search rules in
    sym (target_read c.args.chart.now c.loop-t.t c.transition-item.result within item)

pub loop-t-preserved : goal.loop-t-preserved
loop-t-preserved c =
    c.in_ok-push.ensures.ok ∙ row_more (entry_row c.args.chart.now) c.loop-t.t c.loop-t.table c.in_ok-row.row c.loop-t.invariant c.in_ok-row.ensures

pub returns : goal.returns
unfolding entries_of
returns c = search rules
