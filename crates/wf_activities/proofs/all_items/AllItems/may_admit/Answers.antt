use Rattle.std.proofs.Common.{List, sym, ◌∙◌, ap}
use Rattle.wf_model.specs.declared.outer.Outer.TheVariants.{Complete}
use Rattle.wf_model.specs.declared.outer.Output.{Output}
use Rattle.wf_semantics.specs.Admission.{may_be_admitted}
use Rattle.wf_activities.specs.Completing.{completes_again}
use Rattle.wf_activities.specs.Stock.{items_at}
use Rattle.wf_activities.proofs.all_items.AllItems.may_admit.Goals as goal

pub returns-in-Happen : goal.returns-in-Happen
unfolding may_be_admitted
returns-in-Happen c = λ entries same.
    c.admits_event.ensures ∙ ap (may_be_admitted c.args.chart.now (items_at c.args.self.now) entries c.args.unit.0) (sym c.in-Happen.is)

pub returns-in-Complete : goal.returns-in-Complete
returns-in-Complete c = λ entries same.
    c.may_complete.ensures entries (ap (completes_again entries c.args.unit.0) (sym c.in-Complete.is) ∙ same)
    ∙ ap (λ (outputs : List Output). may_be_admitted c.args.chart.now (items_at c.args.self.now) entries c.args.unit.0 (Complete c.in-Complete.item c.in-Complete.act outputs)) c.as_slice.ensures
    ∙ ap (may_be_admitted c.args.chart.now (items_at c.args.self.now) entries c.args.unit.0) (sym c.in-Complete.is)
