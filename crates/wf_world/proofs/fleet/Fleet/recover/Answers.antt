use Rattle.std.proofs.Common.{◌≡◌, ◌<◌, length, slice_get, slice_set, Some, sym, subst}
use Rattle.std.specs.Prelude.{IfOk}
use Rattle.wf_machine.specs.declared.line.Line.TheVariants as line
use Rattle.wf_world.specs.Fleets.{FleetState, IsFleet, Leads, WearsOne}
use Rattle.wf_world.specs.contracts.fleet.Fleet.{the_view}
use Rattle.wf_world.proofs.Results.{if_ok2, if_ok3, read_at}
use Rattle.wf_world.proofs.Room.{room_early}
use Rattle.wf_world.proofs.Asking.{recover_leads, recover_wears}
use Rattle.wf_world.proofs.fleet.Fleet.recover.Goals as goal

pub recover-requires : goal.recover-requires
recover-requires c =
    let v = the_view c.self.inside in
    let is : IsFleet v = subst IsFleet (sym c.self.view_is) c.requires.fleet in
    let s = c.index_mut.result.now in
    let at : slice_get v.slots c.args.unit.0 ≡ Some s = read_at v is c.args.unit.0 s (subst (λ (y : FleetState). c.args.unit.0 < length y.chart.units) (sym c.self.view_is) c.requires.unit) c.index_mut.ensures.value in
    let at_f : slice_get c.args.self.now.slots c.args.unit.0 ≡ Some s = subst (λ (y : FleetState). slice_get y.slots c.args.unit.0 ≡ Some s) c.self.view_is at in
    record { early = room_early c.args.self.now c.requires.fleet c.args.unit.0 s at_f c.requires.room }

pub returns-clause-led : goal.returns-clause-led
returns-clause-led c =
    let v = the_view c.self.inside in
    let is : IsFleet v = subst IsFleet (sym c.self.view_is) c.requires.fleet in
    let s = c.index_mut.result.now in
    let at : slice_get v.slots c.args.unit.0 ≡ Some s = read_at v is c.args.unit.0 s (subst (λ (y : FleetState). c.args.unit.0 < length y.chart.units) (sym c.self.view_is) c.requires.unit) c.index_mut.ensures.value in
    let t = c.recover.new.self in
    subst (λ (y : FleetState). IfOk c.recover.result (λ r. Leads y (line.Recover c.args.unit) r (record v { slots = slice_set v.slots c.args.unit.0 t }))) c.self.view_is
    (if_ok3 c.recover.result _ _ _ (λ r. Leads v (line.Recover c.args.unit) r (record v { slots = slice_set v.slots c.args.unit.0 t })) c.recover.ensures.answer c.recover.ensures.writes c.recover.ensures.goes
    (λ r answer writes goes. recover_leads v is c.args.unit s at t r answer writes goes))

pub returns-clause-wear : goal.returns-clause-wear
returns-clause-wear c =
    let v = the_view c.self.inside in
    let is : IsFleet v = subst IsFleet (sym c.self.view_is) c.requires.fleet in
    let s = c.index_mut.result.now in
    let at : slice_get v.slots c.args.unit.0 ≡ Some s = read_at v is c.args.unit.0 s (subst (λ (y : FleetState). c.args.unit.0 < length y.chart.units) (sym c.self.view_is) c.requires.unit) c.index_mut.ensures.value in
    let t = c.recover.new.self in
    subst (λ (y : FleetState). IfOk c.recover.result (λ r. WearsOne c.args.unit.0 y (record v { slots = slice_set v.slots c.args.unit.0 t }))) c.self.view_is
    (if_ok2 c.recover.result _ _ (λ r. WearsOne c.args.unit.0 v (record v { slots = slice_set v.slots c.args.unit.0 t })) c.recover.ensures.writes c.recover.ensures.goes
    (λ r writes goes. recover_wears v is c.args.unit s at t writes goes))
