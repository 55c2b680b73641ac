use Rattle.std.proofs.Common.{◌≡◌, ◌<◌, length, slice_get, slice_set, Some, sym, subst}
use Rattle.wf_machine.specs.declared.line.Line.TheVariants as line
use Rattle.wf_world.specs.Fleets.{FleetState, IsFleet, Leads, WearsOne}
use Rattle.wf_world.specs.contracts.fleet.Fleet.{the_view}
use Rattle.wf_world.proofs.Results.{read_at}
use Rattle.wf_world.proofs.Asking.{crash_leads, crash_wears}
use Rattle.wf_world.proofs.fleet.Fleet.crash.Goals as goal

pub returns-clause-led : goal.returns-clause-led
returns-clause-led c =
    let v = the_view c.self.inside in
    let is : IsFleet v = subst IsFleet (sym c.self.view_is) c.requires.fleet in
    let s = c.index_mut.result.now in
    let at : slice_get v.slots c.args.unit.0 ≡ Some s = read_at v is c.args.unit.0 s (subst (λ (y : FleetState). c.args.unit.0 < length y.chart.units) (sym c.self.view_is) c.requires.unit) c.index_mut.ensures.value in
    let t = c.crash.new.self in
    subst (λ (y : FleetState). Leads y (line.Crash c.args.unit c.args.outcome) c.crash.result (record v { slots = slice_set v.slots c.args.unit.0 t })) c.self.view_is
    (crash_leads v is c.args.unit s at t c.crash.ensures.fell c.crash.ensures.stays c.args.outcome c.crash.result c.crash.ensures.answer)

pub returns-clause-wear : goal.returns-clause-wear
returns-clause-wear c =
    let v = the_view c.self.inside in
    let is : IsFleet v = subst IsFleet (sym c.self.view_is) c.requires.fleet in
    let s = c.index_mut.result.now in
    let at : slice_get v.slots c.args.unit.0 ≡ Some s = read_at v is c.args.unit.0 s (subst (λ (y : FleetState). c.args.unit.0 < length y.chart.units) (sym c.self.view_is) c.requires.unit) c.index_mut.ensures.value in
    let t = c.crash.new.self in
    subst (λ (y : FleetState). WearsOne c.args.unit.0 y (record v { slots = slice_set v.slots c.args.unit.0 t })) c.self.view_is
    (crash_wears v is c.args.unit s at t c.crash.ensures.fell c.crash.ensures.stays)
