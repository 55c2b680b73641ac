use Rattle.std.proofs.Common.{◌≡◌, ◌≢◌, ◌<◌, ◌≤◌, true≢false, length, slice_get, Some, sym, ◌∙◌, subst, arith, rules}
use Rattle.wf_machine.specs.declared.line.Line.TheVariants as line
use Rattle.wf_machine.specs.declared.reply.Reply.TheVariants as reply
use Rattle.wf_machine.specs.Server.{IsDown}
use Rattle.wf_histories.specs.Histories.{taken}
use Rattle.wf_world.specs.Mail.{sent_at, IsLetter}
use Rattle.wf_world.specs.Fleets.{FleetState, machine_at, IsFleet, Leads}
use Rattle.wf_world.specs.contracts.fleet.Fleet.{the_view}
use Rattle.wf_world.proofs.Results.{read_at}
use Rattle.wf_world.proofs.Rounds.{units_long}
use Rattle.wf_world.proofs.Mailing.{letter_at, down_leads, old_leads}
use Rattle.wf_world.proofs.fleet.Fleet.unread.Goals as goal

pub index-slot-requires : goal.index-slot-requires
index-slot-requires c =
    let v = the_view c.self.inside in
    let is : IsFleet v = subst IsFleet (sym c.self.view_is) c.requires.fleet in
    let x = c.args.sent.now in
    let number : sent_at v.messages c.args.number ≡ Some x = subst (λ (y : FleetState). sent_at y.messages c.args.number ≡ Some x) (sym c.self.view_is) c.requires.sent in
    let it : IsLetter v.chart (machine_at v) x = letter_at v is c.args.number x number in
    let units = units_long v in
    let count = is.count in
    let to = it.made.receiver in
    let within : x.receiver.0 < length v.slots = omega (arith, units, count, to) in
    search (rules, within)

pub returns-then-is_down : goal.returns-then-is_down
returns-then-is_down c =
    let v = the_view c.self.inside in
    let is : IsFleet v = subst IsFleet (sym c.self.view_is) c.requires.fleet in
    let x = c.args.sent.now in
    let number : sent_at v.messages c.args.number ≡ Some x = subst (λ (y : FleetState). sent_at y.messages c.args.number ≡ Some x) (sym c.self.view_is) c.requires.sent in
    let it : IsLetter v.chart (machine_at v) x = letter_at v is c.args.number x number in
    let units = units_long v in
    let count = is.count in
    let to = it.made.receiver in
    let lt : x.receiver.0 < length v.chart.units = omega (arith, units, count, to) in
    let s = c.index-slot.result.now in
    let at : slice_get v.slots x.receiver.0 ≡ Some s = read_at v is x.receiver.0 s lt c.index-slot.ensures in
    subst (λ (y : FleetState). Leads y (line.Deliver c.args.number) reply.Down y) c.self.view_is (down_leads v is x it s at c.args.number number (c.is_down.ensures.0 c.if-is_down.true))

pub returns-then-sent-taken : goal.returns-then-sent-taken
returns-then-sent-taken c =
    let v = the_view c.self.inside in
    let is : IsFleet v = subst IsFleet (sym c.self.view_is) c.requires.fleet in
    let x = c.args.sent.now in
    let number : sent_at v.messages c.args.number ≡ Some x = subst (λ (y : FleetState). sent_at y.messages c.args.number ≡ Some x) (sym c.self.view_is) c.requires.sent in
    let it : IsLetter v.chart (machine_at v) x = letter_at v is c.args.number x number in
    let units = units_long v in
    let count = is.count in
    let to = it.made.receiver in
    let lt : x.receiver.0 < length v.chart.units = omega (arith, units, count, to) in
    let s = c.index-slot.result.now in
    let at : slice_get v.slots x.receiver.0 ≡ Some s = read_at v is x.receiver.0 s lt c.index-slot.ensures in
    let up : s.health ≢ IsDown = λ down. true≢false (sym (c.is_down.ensures.1 down) ∙ c.if-is_down.false) in
    let past : x.step ≤ taken s.past = omega (arith, c.if-sent-taken.true, c.taken.ensures) in
    subst (λ (y : FleetState). Leads y (line.Deliver c.args.number) reply.Old y) c.self.view_is (old_leads v is x it s at c.args.number number up past)
