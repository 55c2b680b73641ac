use Rattle.std.proofs.Common.{length, map, subst}
use Rattle.wf_model.specs.declared.chart.Chart.{Chart}
use Rattle.wf_activities.specs.Stock.{Stock, AreOf}
use Rattle.wf_activities.proofs.ChartTables.{made_of, no_items_at, no_steps_at}
use Rattle.wf_activities.proofs.all_items.AllItems.of.Goals as goal

pub returns-clause-items : goal.returns-clause-items
returns-clause-items c =
    let stock : Stock = record { items = map (λ i. i.items) c.in_ok-units.units.items; steps = map (λ i. i.steps) c.in_ok-units.units.items; wanted = c.in_ok-wanted.wanted } in
    no_items_at stock (length c.chart-chart.result.now.units) c.in_ok-units.ensures.items

pub returns-clause-steps : goal.returns-clause-steps
returns-clause-steps c =
    let stock : Stock = record { items = map (λ i. i.items) c.in_ok-units.units.items; steps = map (λ i. i.steps) c.in_ok-units.units.items; wanted = c.in_ok-wanted.wanted } in
    no_steps_at stock (length c.chart-chart.result.now.units) c.in_ok-units.ensures.steps

pub returns-clause-of : goal.returns-clause-of
returns-clause-of c =
    let stock : Stock = record { items = map (λ i. i.items) c.in_ok-units.units.items; steps = map (λ i. i.steps) c.in_ok-units.units.items; wanted = c.in_ok-wanted.wanted } in
    subst (λ (chart : Chart). AreOf chart stock) c.chart-chart.ensures.same (made_of c.chart-chart.result.now stock c.in_ok-units.ensures.items c.in_ok-wanted.ensures)
