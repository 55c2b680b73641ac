use Rattle.std.proofs.Common.{◌==◌, arith, ◌∙◌, ap}
use Rattle.wf_scopes.proofs.Lines.{lineages_len, above_read}
use Rattle.std.specs.List.{list_any}
use Rattle.wf_scopes.proofs.lineages.is_above.Goals as goal

pub bounds-lineages-b : goal.bounds-lineages-b
bounds-lineages-b c = omega (arith, lineages_len c.args.chart.now c.args.lineages.now c.requires.of)

pub returns : goal.returns
returns c =
    c.has_id.ensures
    ∙ ap (list_any (λ x. x.0 == c.args.a.0)) c.as_slice.ensures
    ∙ above_read c.args.chart.now c.args.a.0 c.args.b.0 c.index-lineages-b.result c.args.lineages.now c.requires.of c.requires.in_range c.index-lineages-b.is
