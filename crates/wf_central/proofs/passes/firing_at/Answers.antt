use Rattle.std.proofs.Common.{None, is_some, cond, Bool, sym, ap, ◌∙◌}
use Rattle.std.specs.List.{list_any}
use Rattle.wf_model.specs.declared.ids.StateId.{StateId}
use Rattle.wf_model.specs.Tree.{ancestors}
use Rattle.wf_model.specs.Ids.{state_id}
use Rattle.wf_model.proofs.Bools.{any_map}
use Rattle.wf_central.specs.Passes.{at}
use Rattle.wf_central.proofs.passes.firing_at.Goals as goal

pub returns-then-is_held : goal.returns-then-is_held
returns-then-is_held c =
    let held = c.is_held.ensures ∙ ap (list_any (λ (a : StateId). is_some (at c.args.chosen.now a.0))) (c.lineage.ensures c.args.chart.now c.requires.of c.requires.in_range)
    ∙ any_map (λ (a : StateId). is_some (at c.args.chosen.now a.0)) state_id (ancestors c.args.chart.now c.args.s.0) in
    ap (λ (b : Bool). cond b None (at c.args.chosen.now c.args.s.0)) (sym c.if-is_held.true ∙ held)

pub returns-else-is_held : goal.returns-else-is_held
returns-else-is_held c =
    let held = c.is_held.ensures ∙ ap (list_any (λ (a : StateId). is_some (at c.args.chosen.now a.0))) (c.lineage.ensures c.args.chart.now c.requires.of c.requires.in_range)
    ∙ any_map (λ (a : StateId). is_some (at c.args.chosen.now a.0)) state_id (ancestors c.args.chart.now c.args.s.0) in
    c.entry_at.ensures ∙ ap (λ (b : Bool). cond b None (at c.args.chosen.now c.args.s.0)) (sym c.if-is_held.false ∙ held)
