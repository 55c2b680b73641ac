use Rattle.std.proofs.Common.{◌≡◌, Some, arith, sym, ap, ◌∙◌, refl}
use Rattle.std.specs.Option.{option_map}
use Rattle.wf_model.specs.declared.ids.StateId.{StateId}
use Rattle.wf_model.specs.Tree.{parent}
use Rattle.wf_semantics.specs.Configuration.{is_in}
use Rattle.wf_semantics.specs.Entry.{default_tree}
use Rattle.wf_model.proofs.Rows.{row_len}
use Rattle.wf_scopes.proofs.DefaultIn.{default_low, default_child, default_top}
use Rattle.wf_scopes.proofs.defaults.is_default.Goals as goal

pub is_child_in-requires-clause-later : goal.is_child_in-requires-clause-later
is_child_in-requires-clause-later c =
    default_low c.args.chart.now c.requires.accepted c.in-Some.p.0 c.args.z.0 (sym c.parent.ensures ∙ ap (option_map (λ (p : StateId). p.0)) c.in-Some.is)

pub is_child_in-requires-clause-before : goal.is_child_in-requires-clause-before
is_child_in-requires-clause-before c =
    let up : parent c.args.chart.now c.args.z.0 ≡ Some c.in-Some.p.0 = sym c.parent.ensures ∙ ap (option_map (λ (p : StateId). p.0)) c.in-Some.is in
    omega (arith, default_low c.args.chart.now c.requires.accepted c.in-Some.p.0 c.args.z.0 up, row_len (λ s. is_in s (default_tree c.args.chart.now 0)) c.args.z.0 c.args.row.now c.requires.before)

pub returns-in-Some : goal.returns-in-Some
returns-in-Some c =
    c.is_child_in.ensures
    ∙ default_child c.args.chart.now c.requires.accepted c.args.z.0 c.in-Some.p.0 c.args.row.now _ (sym c.parent.ensures ∙ ap (option_map (λ (p : StateId). p.0)) c.in-Some.is) c.requires.before refl

pub returns-in-None : goal.returns-in-None
returns-in-None c = default_top c.args.chart.now c.requires.accepted c.args.z.0 (sym c.parent.ensures ∙ ap (option_map (λ (p : StateId). p.0)) c.in-None.is)
