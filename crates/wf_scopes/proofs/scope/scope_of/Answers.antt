use Rattle.std.proofs.Common.{◌&&◌, find, arith, ◌∙◌, ap, sym, unwrap_or, Option}
use Rattle.std.specs.Option.{option_map}
use Rattle.wf_model.specs.declared.ids.StateId.{StateId}
use Rattle.wf_model.specs.Tree.{kind, is_or, is_above}
use Rattle.wf_scopes.proofs.Lines.{lineages_len, scope_read}
use Rattle.wf_scopes.proofs.scope.scope_of.Goals as goal

pub bounds-lineages-transition : goal.bounds-lineages-transition
bounds-lineages-transition c = omega (arith, lineages_len c.args.chart.now c.args.lineages.now c.requires.of)

pub returns-in-Some : goal.returns-in-Some
returns-in-Some c =
    ap (λ (o : Option StateId). unwrap_or (option_map (λ (a : StateId). a.0) o) 0) (sym c.in-Some.is)
    ∙ scope_read c.args.chart.now c.args.lineages.now c.index-lineages-transition.result c.args.transition.now.source.0 c.args.transition.now.target.0 c.first_spanning.result c.requires.of
    c.requires.source c.index-lineages-transition.is
    (c.first_spanning.ensures ∙ ap (find (λ (a : StateId). is_or (kind c.args.chart.now a.0) && is_above c.args.chart.now a.0 c.args.transition.now.target.0)) c.as_slice-ids.ensures)

pub returns-in-None : goal.returns-in-None
returns-in-None c =
    ap (λ (o : Option StateId). unwrap_or (option_map (λ (a : StateId). a.0) o) 0) (sym c.in-None.is)
    ∙ scope_read c.args.chart.now c.args.lineages.now c.index-lineages-transition.result c.args.transition.now.source.0 c.args.transition.now.target.0 c.first_spanning.result c.requires.of
    c.requires.source c.index-lineages-transition.is
    (c.first_spanning.ensures ∙ ap (find (λ (a : StateId). is_or (kind c.args.chart.now a.0) && is_above c.args.chart.now a.0 c.args.transition.now.target.0)) c.as_slice-ids.ensures)
