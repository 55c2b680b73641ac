use Rattle.std.proofs.Common.{◌≡◌, ap, sym, ◌∙◌, arith, Some, true, false, refl}
use Rattle.std.specs.Option.{option_map}
use Rattle.wf_model.specs.declared.ids.StateId.{StateId}
use Rattle.wf_model.specs.Tree.{parent}
use Rattle.wf_semantics.specs.Configuration.{is_in}
use Rattle.wf_semantics.specs.Entry.{entry_tree}
use Rattle.wf_semantics.proofs.Facts.{chart_of}
use Rattle.wf_model.proofs.Rows.{row_len}
use Rattle.wf_scopes.proofs.Enters.{child_high, entered_by, entry_none}
use Rattle.wf_scopes.proofs.entries.is_entered.Goals as goal

pub is_from-requires : goal.is_from-requires
is_from-requires c =
    let up : parent c.args.chart.now c.args.z.0 ≡ Some c.in-Some.p.0 = sym c.parent.ensures ∙ ap (option_map (λ (p : StateId). p.0)) c.in-Some.is in
    omega (
      arith,
      child_high c.args.chart.now c.requires.accepted c.in-Some.p.0 c.args.z.0 up,
      row_len (λ s. is_in s (entry_tree c.args.chart.now c.args.t.0)) c.args.z.0 c.args.row.now c.requires.before,
    )

pub is_picked-requires-clause-later : goal.is_picked-requires-clause-later
is_picked-requires-clause-later c =
    child_high c.args.chart.now c.requires.accepted c.in-Some.p.0 c.args.z.0 (sym c.parent.ensures ∙ ap (option_map (λ (p : StateId). p.0)) c.in-Some.is)

pub is_picked-requires-clause-in_range : goal.is_picked-requires-clause-in_range
is_picked-requires-clause-in_range c =
    omega (arith, ((chart_of c.args.chart.now c.requires.accepted).targets c.args.t.0 c.requires.in_range).1, c.requires.target)

pub returns-then-is_from : goal.returns-then-is_from
returns-then-is_from c =
    entered_by c.args.chart.now c.requires.accepted c.args.t.0 c.args.z.0 c.in-Some.p.0 c.args.way.scope.0 c.args.way.target.0 c.args.row.now true c.is_picked.result c.requires.in_range
    (sym c.parent.ensures ∙ ap (option_map (λ (p : StateId). p.0)) c.in-Some.is) c.requires.scope c.requires.target c.requires.before (sym c.if-is_from.true ∙ c.is_from.ensures) c.is_picked.ensures

pub returns-else-is_from : goal.returns-else-is_from
returns-else-is_from c =
    c.if-is_from.false
    ∙ entered_by c.args.chart.now c.requires.accepted c.args.t.0 c.args.z.0 c.in-Some.p.0 c.args.way.scope.0 c.args.way.target.0 c.args.row.now false _ c.requires.in_range
    (sym c.parent.ensures ∙ ap (option_map (λ (p : StateId). p.0)) c.in-Some.is) c.requires.scope c.requires.target c.requires.before (sym c.if-is_from.false ∙ c.is_from.ensures) refl

pub returns-in-None : goal.returns-in-None
returns-in-None c =
    sym (entry_none c.args.chart.now c.requires.accepted c.args.t.0 c.args.z.0 c.requires.in_range (sym c.parent.ensures ∙ ap (option_map (λ (p : StateId). p.0)) c.in-None.is))
