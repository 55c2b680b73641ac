use Rattle.std.proofs.Common.{sym, ◌∙◌}
use Rattle.wf_scopes.proofs.DefaultIn.{first_pick}
use Rattle.wf_scopes.proofs.defaults.is_first.Goals as goal

pub returns-in-Or : goal.returns-in-Or
returns-in-Or c = first_pick c.args.chart.now c.requires.accepted c.args.p.0 c.args.z.0 (sym c.kind.ensures ∙ c.in-Or.is) c.requires.child
