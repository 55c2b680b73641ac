use Rattle.std.proofs.Common.{ℕ, sym, arith, length-set}
use Rattle.wf_activities.proofs.Admitting.{unit_known}
use Rattle.wf_activities.proofs.Numbering.{number_at, counted_at}
use Rattle.wf_activities.proofs.numbers.next_number.Goals as goal

pub bounds-counts-unit : goal.bounds-counts-unit
bounds-counts-unit c = omega (arith, unit_known c.args.chart.now c.requires.accepted c.args.act.0 c.in-Some.activity.now (sym c.in-Some.ensures.value), c.requires.units)

pub bounds-counts-unit-in-Some : goal.bounds-counts-unit-in-Some
bounds-counts-unit-in-Some c = omega (arith, unit_known c.args.chart.now c.requires.accepted c.args.act.0 c.in-Some.activity.now (sym c.in-Some.ensures.value), c.requires.units)

pub bounds-counts-unit-in-Some-2 : goal.bounds-counts-unit-in-Some-2
bounds-counts-unit-in-Some-2 c =
    omega (
      arith,
      unit_known c.args.chart.now c.requires.accepted c.args.act.0 c.in-Some.activity.now (sym c.in-Some.ensures.value),
      c.requires.units,
      length-set {A = ℕ},
    )

pub returns-in-Some-clause-number : goal.returns-in-Some-clause-number
returns-in-Some-clause-number c =
    number_at c.args.chart.now c.args.act.0 c.in-Some.activity.now c.args.counts.now (sym c.in-Some.ensures.value)
    (omega (arith, unit_known c.args.chart.now c.requires.accepted c.args.act.0 c.in-Some.activity.now (sym c.in-Some.ensures.value), c.requires.units))

pub returns-in-Some-clause-counted : goal.returns-in-Some-clause-counted
returns-in-Some-clause-counted c =
    counted_at c.args.chart.now c.args.act.0 c.in-Some.activity.now c.args.counts.now (sym c.in-Some.ensures.value)
    (omega (arith, unit_known c.args.chart.now c.requires.accepted c.args.act.0 c.in-Some.activity.now (sym c.in-Some.ensures.value), c.requires.units))
