use Rattle.std.proofs.Common.{◌∙◌, map, filter, ap}
use Rattle.wf_model.specs.declared.outer.Output.{Output}
use Rattle.wf_parts.specs.declared.data.PartData.{PartData}
use Rattle.wf_updates.proofs.Making.{first_made}
use Rattle.wf_updates.proofs.view.View.first.Goals as goal

pub returns : goal.returns
returns c =
    let given = c.data-data.ensures.same in
    let states = c.as_slice.ensures ∙ ap (λ (p : PartData). p.states) given in
    let vars = c.as_slice-2.ensures ∙ ap (λ (p : PartData). p.vars) given in
    let acts = c.as_slice-3.ensures ∙ ap (λ (p : PartData). p.acts) given in
    first_made c.args.part.now c.in_ok-states.states c.in_ok-vars.vars c.new.result c.in_ok-unclosed.unclosed c.new-2.result
    (c.in_ok-states.ensures ∙ ap (λ l. map (λ known. known.id) (filter (λ known. known.first) l)) states)
    (c.in_ok-vars.ensures ∙ ap (λ l. map (λ known. let o : Output = record { var = known.id; val = known.first } in o) l) vars)
    c.new.ensures
    (c.in_ok-unclosed.ensures ∙ ap (λ l. map (λ known. (known.id, 0)) l) acts)
    c.new-2.ensures
