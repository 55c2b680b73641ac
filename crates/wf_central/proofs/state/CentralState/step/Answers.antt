use Rattle.std.proofs.Common.{◌+◌, length, ap, subst, ◌∙◌, arith}
use Rattle.wf_model.specs.declared.chart.Chart.{Chart}
use Rattle.wf_semantics.specs.Shown.{HasSorts}
use Rattle.wf_activities.specs.Stock.{AreOf, items_at}
use Rattle.wf_central.specs.Kept.{Kept, central_of}
use Rattle.wf_central.specs.Made.{MakesStep}
use Rattle.wf_central.proofs.Same.{comes, room, took, took_numbers, items_made, started_made, steps_made, next_is, next_of}
use Rattle.wf_central.proofs.state.CentralState.step.Goals as goal

pub take_step-requires-clause-come : goal.take_step-requires-clause-come
take_step-requires-clause-come c =
    comes c.args.checked.now c.chart-chart.result.now c.self.inside.items c.args.self.now c.args.outer.now c.chart-chart.ensures.same (ap (λ (k : Kept). k.items) c.self.view_is) c.requires.come

pub take_step-requires-clause-room : goal.take_step-requires-clause-room
take_step-requires-clause-room c = λ u.
    let made : MakesStep c.args.checked.now (central_of c.args.checked.now c.args.self.now) c.args.outer.now c.in_ok-after.after =
    subst (λ (x : Chart). MakesStep x (central_of x c.args.self.now) c.args.outer.now c.in_ok-after.after) c.chart-chart.ensures.same c.in_ok-after.ensures.step in
    omega (
      arith,
      ap (λ (k : Kept). length (items_at k.items u)) c.self.view_is,
      room c.args.checked.now c.chart-chart.ensures.accepted c.args.self.now c.args.outer.now c.as_slice.result.now c.requires.of c.requires.few (c.as_slice.ensures ∙ made.starts) u,
    )

pub returns-clause-state : goal.returns-clause-state
returns-clause-state c =
    let chart = c.args.checked.now in
    let kept = c.args.self.now in
    let next : Kept = record { active = c.in_ok-after.after.active; store = c.in_ok-after.after.store; raised = c.in_ok-after.after.raised; items = c.take_step.new.self; taken = c.self.inside.taken + 1; tables = c.self.inside.scopes } in
    let made : MakesStep chart (central_of chart kept) c.args.outer.now c.in_ok-after.after =
    subst (λ (x : Chart). MakesStep x (central_of x kept) c.args.outer.now c.in_ok-after.after) c.chart-chart.ensures.same c.in_ok-after.ensures.step in
    next_is chart c.chart-chart.ensures.accepted kept next c.args.outer.now made.active made.store made.raised
    (items_made chart c.chart-chart.ensures.accepted kept c.take_step.new.self c.args.outer.now c.as_slice.result.now (c.as_slice.ensures ∙ made.starts)
    (took chart c.chart-chart.result.now c.self.inside.items c.take_step.new.self kept c.args.outer.now c.as_slice.result.now c.chart-chart.ensures.same (ap (λ (k : Kept). k.items) c.self.view_is) c.in_ok-starts.ensures.items))
    (ap (λ (k : Kept). k.taken + 1) c.self.view_is)

pub returns-clause-steps : goal.returns-clause-steps
returns-clause-steps c =
    let chart = c.args.checked.now in
    let kept = c.args.self.now in
    let made : MakesStep chart (central_of chart kept) c.args.outer.now c.in_ok-after.after =
    subst (λ (x : Chart). MakesStep x (central_of x kept) c.args.outer.now c.in_ok-after.after) c.chart-chart.ensures.same c.in_ok-after.ensures.step in
    steps_made chart c.chart-chart.result.now c.self.inside.items c.take_step.new.self kept c.args.outer.now c.as_slice.result.now (c.self.inside.taken + 1)
    c.chart-chart.ensures.same (ap (λ (k : Kept). k.items) c.self.view_is) (ap (λ (k : Kept). k.taken + 1) c.self.view_is) (c.as_slice.ensures ∙ made.starts) c.in_ok-starts.ensures.steps

pub returns-clause-notes : goal.returns-clause-notes
returns-clause-notes c =
    let chart = c.args.checked.now in
    let kept = c.args.self.now in
    let made : MakesStep chart (central_of chart kept) c.args.outer.now c.in_ok-after.after =
    subst (λ (x : Chart). MakesStep x (central_of x kept) c.args.outer.now c.in_ok-after.after) c.chart-chart.ensures.same c.in_ok-after.ensures.step in
    let starts =
    c.in_ok-starts.ensures.numbered
    ∙ took_numbers chart c.chart-chart.result.now c.self.inside.items kept c.as_slice.result.now c.chart-chart.ensures.same (ap (λ (k : Kept). k.items) c.self.view_is)
    ∙ started_made chart c.chart-chart.ensures.accepted kept c.args.outer.now c.as_slice.result.now (c.as_slice.ensures ∙ made.starts) in
    λ i. record { fired = made.fired i; starts = starts i }

pub returns-clause-of : goal.returns-clause-of
returns-clause-of c =
    let chart = c.args.checked.now in
    let kept = c.args.self.now in
    let next : Kept = record { active = c.in_ok-after.after.active; store = c.in_ok-after.after.store; raised = c.in_ok-after.after.raised; items = c.take_step.new.self; taken = c.self.inside.taken + 1; tables = c.self.inside.scopes } in
    let made : MakesStep chart (central_of chart kept) c.args.outer.now c.in_ok-after.after =
    subst (λ (x : Chart). MakesStep x (central_of x kept) c.args.outer.now c.in_ok-after.after) c.chart-chart.ensures.same c.in_ok-after.ensures.step in
    next_of chart c.chart-chart.ensures.accepted kept next c.args.outer.now c.as_slice.result.now c.requires.of made.active
    (subst (λ (x : Chart). HasSorts x c.in_ok-after.after.store) c.chart-chart.ensures.same c.in_ok-after.ensures.sorts)
    (subst (λ (x : Chart). AreOf x c.take_step.new.self) c.chart-chart.ensures.same c.in_ok-starts.ensures.of)
    (c.as_slice.ensures ∙ made.starts)
    (took chart c.chart-chart.result.now c.self.inside.items c.take_step.new.self kept c.args.outer.now c.as_slice.result.now c.chart-chart.ensures.same (ap (λ (k : Kept). k.items) c.self.view_is) c.in_ok-starts.ensures.items)
    (ap (λ (k : Kept). k.taken + 1) c.self.view_is)
    (ap (λ (k : Kept). k.tables) c.self.view_is)
