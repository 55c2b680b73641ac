use Rattle.std.proofs.Common.{◌≡◌, ◌<◌, length, slice_get, slice_set, Some, sym, subst}
use Rattle.wf_machine.specs.declared.line.Line.TheVariants as line
use Rattle.wf_machine.specs.declared.reply.Reply.TheVariants as reply
use Rattle.wf_world.specs.Fleets.{FleetState, IsFleet, Leads, WearsOne}
use Rattle.wf_world.specs.contracts.fleet.Fleet.{the_view}
use Rattle.wf_world.proofs.Results.{read_at}
use Rattle.wf_world.proofs.Room.{room_early}
use Rattle.wf_world.proofs.Asking.{arm_leads, arm_wears}
use Rattle.wf_world.proofs.fleet.Fleet.arm.Goals as goal

pub arm-requires-clause-early : goal.arm-requires-clause-early
arm-requires-clause-early c =
    let v = the_view c.self.inside in
    let is : IsFleet v = subst IsFleet (sym c.self.view_is) c.requires.fleet in
    let s = c.index_mut.result.now in
    let at : slice_get v.slots c.args.unit.0 ≡ Some s = read_at v is c.args.unit.0 s (subst (λ (y : FleetState). c.args.unit.0 < length y.chart.units) (sym c.self.view_is) c.requires.unit) c.index_mut.ensures.value in
    let at_f : slice_get c.args.self.now.slots c.args.unit.0 ≡ Some s = subst (λ (y : FleetState). slice_get y.slots c.args.unit.0 ≡ Some s) c.self.view_is at in
    room_early c.args.self.now c.requires.fleet c.args.unit.0 s at_f c.requires.room

pub returns-clause-led : goal.returns-clause-led
returns-clause-led c =
    let v = the_view c.self.inside in
    let is : IsFleet v = subst IsFleet (sym c.self.view_is) c.requires.fleet in
    let s = c.index_mut.result.now in
    let at : slice_get v.slots c.args.unit.0 ≡ Some s = read_at v is c.args.unit.0 s (subst (λ (y : FleetState). c.args.unit.0 < length y.chart.units) (sym c.self.view_is) c.requires.unit) c.index_mut.ensures.value in
    let t = c.arm.new.self in
    subst (λ (y : FleetState). Leads y (line.Arm c.args.unit c.args.stroke c.args.what) reply.Armed (record v { slots = slice_set v.slots c.args.unit.0 t })) c.self.view_is
    (arm_leads v is c.args.unit s at t c.args.stroke c.args.what c.arm.ensures)

pub returns-clause-wear : goal.returns-clause-wear
returns-clause-wear c =
    let v = the_view c.self.inside in
    let is : IsFleet v = subst IsFleet (sym c.self.view_is) c.requires.fleet in
    let s = c.index_mut.result.now in
    let at : slice_get v.slots c.args.unit.0 ≡ Some s = read_at v is c.args.unit.0 s (subst (λ (y : FleetState). c.args.unit.0 < length y.chart.units) (sym c.self.view_is) c.requires.unit) c.index_mut.ensures.value in
    let t = c.arm.new.self in
    subst (λ (y : FleetState). WearsOne c.args.unit.0 y (record v { slots = slice_set v.slots c.args.unit.0 t })) c.self.view_is
    (arm_wears v is c.args.unit s at t c.args.stroke c.args.what c.arm.ensures)
