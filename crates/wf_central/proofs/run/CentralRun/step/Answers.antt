use Rattle.std.proofs.Common.{◌≡◌, ◌∙◌, true, List, ap, ap₂, sym, subst}
use Rattle.wf_model.specs.declared.outer.Entry.{Entry}
use Rattle.wf_semantics.specs.Admission.{may_come}
use Rattle.wf_central.specs.Kept.{central_of, notes_of, StartInStep}
use Rattle.wf_semantics.specs.Standing.{in_unit_order}
use Rattle.wf_central.proofs.Orders.{ordered_may_come}
use Rattle.wf_central.proofs.run.CentralRun.step.Goals as goal

pub step-requires-clause-come : goal.step-requires-clause-come
step-requires-clause-come c =
    let same = c.as_slice.ensures ∙ c.in_ok-coming.ensures ∙ ap₂ in_unit_order c.chart.ensures.same c.entries.ensures in
    subst (λ (entries : List Entry). may_come c.args.checked.now (central_of c.args.checked.now c.args.self.now.central).items entries ≡ true) (sym same)
    (ordered_may_come c.args.checked.now (central_of c.args.checked.now c.args.self.now.central) c.args.self.now.pending c.requires.of.come)

pub returns-clause-notes : goal.returns-clause-notes
returns-clause-notes c =
    let same = c.as_slice.ensures ∙ c.in_ok-coming.ensures ∙ ap₂ in_unit_order c.chart.ensures.same c.entries.ensures in
    c.in_ok-notes.ensures.notes ∙ ap (notes_of c.args.checked.now (central_of c.args.checked.now c.args.self.now.central)) same

pub returns-clause-steps : goal.returns-clause-steps
returns-clause-steps c =
    let same = c.as_slice.ensures ∙ c.in_ok-coming.ensures ∙ ap₂ in_unit_order c.chart.ensures.same c.entries.ensures in
    subst (λ (entries : List Entry). StartInStep c.args.checked.now c.args.self.now.central entries c.step.new.self) same c.in_ok-notes.ensures.steps
