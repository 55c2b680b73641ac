use Rattle.std.proofs.Common.{◌==◌, ap, ◌∙◌}
use Rattle.std.specs.List.{list_any}
use Rattle.wf_model.specs.declared.ids.StateId.{StateId}
use Rattle.wf_model.specs.Tree.{ancestors}
use Rattle.wf_model.specs.Ids.{state_id}
use Rattle.wf_model.proofs.Bools.{any_map}
use Rattle.wf_scopes.proofs.scopes.Scopes.above.Goals as goal

pub returns : goal.returns
returns c = λ chart of within.
    c.has_id.ensures
    ∙ ap (list_any (λ (x : StateId). x.0 == c.args.a.0)) (c.lineage.ensures chart of within)
    ∙ any_map (λ (x : StateId). x.0 == c.args.a.0) state_id (ancestors chart c.args.b.0)
