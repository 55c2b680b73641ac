use Rattle.std.proofs.Common.{◌≡◌, ◌≢◌, ◌<◌, length, slice_get, Some, sym, ◌∙◌, subst}
use Rattle.std.specs.Prelude.{IfSome}
use Rattle.wf_machine.specs.declared.line.Line.TheVariants as line
use Rattle.wf_machine.specs.declared.reply.Reply.TheVariants as reply
use Rattle.wf_machine.specs.Server.{IsDown}
use Rattle.wf_bridge.specs.Bridging.{node_sight}
use Rattle.wf_world.specs.Fleets.{FleetState, IsFleet, Leads}
use Rattle.wf_world.specs.contracts.fleet.Fleet.{the_view}
use Rattle.wf_world.proofs.Results.{read_at, some_none}
use Rattle.wf_world.proofs.Showing.{shows, shows_none}
use Rattle.wf_world.proofs.fleet.Fleet.show.Goals as goal

pub returns-in-Some : goal.returns-in-Some
returns-in-Some c =
    let v = the_view c.self.inside in
    let is : IsFleet v = subst IsFleet (sym c.self.view_is) c.requires.fleet in
    let s = c.index.result.now in
    let at_v : slice_get v.slots c.args.unit.0 ≡ Some s = read_at v is c.args.unit.0 s (subst (λ (y : FleetState). c.args.unit.0 < length y.chart.units) (sym c.self.view_is) c.requires.unit) c.index.ensures in
    let up : s.health ≢ IsDown = λ down. some_none c.in-Some.sight (sym c.in-Some.is ∙ c.in_ok-sight.ensures.down.1 down) in
    let same : c.in-Some.sight ≡ node_sight s.part s.past = subst (λ o. IfSome o (λ x. x ≡ node_sight s.part s.past)) c.in-Some.is c.in_ok-sight.ensures.sight in
    record { led = subst (λ (y : FleetState). Leads y (line.Show c.args.unit) (reply.Shown c.in-Some.sight) y) c.self.view_is (shows v is c.args.unit s at_v c.in-Some.sight up same) }

pub returns-in-None : goal.returns-in-None
returns-in-None c =
    let v = the_view c.self.inside in
    let is : IsFleet v = subst IsFleet (sym c.self.view_is) c.requires.fleet in
    let s = c.index.result.now in
    let at_v : slice_get v.slots c.args.unit.0 ≡ Some s = read_at v is c.args.unit.0 s (subst (λ (y : FleetState). c.args.unit.0 < length y.chart.units) (sym c.self.view_is) c.requires.unit) c.index.ensures in
    let down : s.health ≡ IsDown = c.in_ok-sight.ensures.down.0 c.in-None.is in
    record { led = subst (λ (y : FleetState). Leads y (line.Show c.args.unit) reply.Down y) c.self.view_is (shows_none v is c.args.unit s at_v down) }
