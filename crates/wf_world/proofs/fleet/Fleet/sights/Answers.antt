use Rattle.std.proofs.Common.{◌≡◌, length, ◌∙◌, arith, rules}
use Rattle.wf_model.proofs.Few.{few_units}
use Rattle.wf_model.proofs.Rows.{row_more}
use Rattle.wf_machine.specs.Sights.{sight_of}
use Rattle.wf_world.specs.Fleets.{machine_at}
use Rattle.wf_world.proofs.fleet.Fleet.sights.Goals as goal

pub overflow_cast-unit : goal.overflow_cast-unit
overflow_cast-unit c =
    let few = few_units c.args.self.now.chart c.requires.fleet.accepted in
    let count = c.requires.fleet.count in
    let long : c.len-unit-end.result ≡ length c.args.self.now.slots = search (rules, c.len-unit-end.ensures, c.self.view_is) in
    let lt = c.loop-unit-test.true in
    omega (arith, few, count, long, lt)

pub loop-unit-preserved : goal.loop-unit-preserved
loop-unit-preserved c =
    let f = c.args.self.now in
    c.in_ok-push.ensures.ok ∙ row_more (sight_of f.chart (machine_at f)) c.loop-unit.unit c.loop-unit.sights c.in_ok-sight.field-0 c.loop-unit.invariant c.in_ok-sight.ensures
