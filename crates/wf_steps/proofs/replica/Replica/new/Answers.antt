use Rattle.std.proofs.Common.{◌∙◌, ap, sym}
use Rattle.std.specs.Prelude.{nat_eq}
use Rattle.std.specs.HashMap.{get}
use Rattle.wf_parts.specs.declared.data.PartData.{PartData}
use Rattle.wf_histories.specs.Histories.{no_update}
use Rattle.wf_worlds.specs.Worlds.{first_history}
use Rattle.wf_steps.proofs.Stepping.{first_is, none_there}
use Rattle.wf_steps.proofs.replica.Replica.new.Goals as goal

pub invariant_of-result : goal.invariant_of-result
invariant_of-result c =
    first_is c.args.part c.in-Ok.field-0.acts c.new.result.past c.in-Ok.field-0.view c.new-in-Ok.result c.no_update.result c.in-Ok.field-0.next (get nat_eq c.new-in-Ok-2.result)
    (c.new.ensures ∙ ap (λ (p : PartData). first_history p.unit.0) c.data.ensures.same)
    c.in-Ok.ensures.acts c.in-Ok.ensures.view c.new-in-Ok.ensures.items c.new-in-Ok.ensures.steps
    (c.no_update.ensures ∙ ap (λ (p : PartData). no_update p.unit) c.data.ensures.same)
    c.in-Ok.ensures.next (none_there c.new-in-Ok-2.result c.new-in-Ok-2.ensures.empty)
