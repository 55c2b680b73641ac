use Rattle.std.proofs.Common.{◌≡◌, ◌<◌, length, slice_get, Some, sym, ap, ◌∙◌, subst}
use Rattle.std.specs.Prelude.{IfSome}
use Rattle.wf_bridge.specs.Bridging.{node_sight}
use Rattle.wf_machine.specs.Server.{Works, IsDown}
use Rattle.wf_machine.specs.Sights.{sight_of}
use Rattle.wf_world.specs.Fleets.{FleetState, machine_at, IsFleet, DoWork}
use Rattle.wf_world.specs.contracts.fleet.Fleet.{the_view}
use Rattle.wf_world.proofs.Results.{read_at}
use Rattle.wf_world.proofs.Showing.{sight_here}
use Rattle.wf_world.proofs.fleet.Fleet.sight.Goals as goal

pub returns : goal.returns
returns c =
    let v = the_view c.self.inside in
    let is : IsFleet v = subst IsFleet (sym c.self.view_is) c.requires.fleet in
    let s = c.index.result.now in
    let at : slice_get v.slots c.args.unit.0 ≡ Some s = read_at v is c.args.unit.0 s (subst (λ (y : FleetState). c.args.unit.0 < length y.chart.units) (sym c.self.view_is) c.requires.unit) c.index.ensures in
    let same : c.in-Some.sight ≡ node_sight s.part s.past = subst (λ o. IfSome o (λ x. x ≡ node_sight s.part s.past)) c.in-Some.is c.in_ok-sight.ensures.sight in
    same ∙ sym (sight_here v is c.args.unit s at) ∙ ap (λ (y : FleetState). sight_of y.chart (machine_at y) c.args.unit.0) c.self.view_is

down_not : IsDown ≡ Works → ⊥
down_not e = cc e

-- a unit that works isn't down
pub unreachable-requires : goal.unreachable-requires
unreachable-requires c =
    let v = the_view c.self.inside in
    let is : IsFleet v = subst IsFleet (sym c.self.view_is) c.requires.fleet in
    let s = c.index.result.now in
    let at : slice_get v.slots c.args.unit.0 ≡ Some s = read_at v is c.args.unit.0 s (subst (λ (y : FleetState). c.args.unit.0 < length y.chart.units) (sym c.self.view_is) c.requires.unit) c.index.ensures in
    let work : DoWork v.slots = subst (λ (y : FleetState). DoWork y.slots) (sym c.self.view_is) c.requires.works in
    down_not (sym (c.in_ok-sight.ensures.down.0 c.in-None.is) ∙ work c.args.unit.0 s at)

pub unreachable-unreachable : goal.unreachable-unreachable
unreachable-unreachable c = c.unreachable.result
