use Rattle.std.proofs.Common.{◌≡◌, ◌<◌, length, slice_get, slice_set, Some, None, sym, ap, ◌∙◌, subst, arith, rules}
use Rattle.wf_model.specs.declared.update.Update.{Update}
use Rattle.wf_machine.specs.declared.line.Line.TheVariants as line
use Rattle.wf_slot.specs.Answers.{MayCome, ReceiveAnswers}
use Rattle.std.specs.Option.{option_copied}
use Rattle.wf_world.specs.Sent.{brought}
use Rattle.wf_world.specs.Mail.{sent_at, message_of, IsLetter}
use Rattle.wf_world.specs.Fleets.{FleetState, machine_at, IsFleet, Leads, WearsNone}
use Rattle.wf_world.specs.contracts.fleet.Fleet.{the_view}
use Rattle.wf_world.proofs.Results.{read_at}
use Rattle.wf_world.proofs.Rounds.{units_long}
use Rattle.wf_world.proofs.Mailing.{letter_at, none_leads, may_come, delivered, delivered_wears}
use Rattle.wf_world.proofs.fleet.Fleet.deliver.Goals as goal

pub returns-in_default-clause-led : goal.returns-in_default-clause-led
returns-in_default-clause-led c =
    let f = c.args.self.now in
    let none : sent_at f.messages c.args.number ≡ None = subst (λ (y : FleetState). sent_at y.messages c.args.number ≡ None) c.self.view_is (sym c.get.ensures ∙ ap option_copied c.in_default.is) in
    none_leads f c.requires.fleet c.args.number none

pub read_letter-requires : goal.read_letter-requires
read_letter-requires c =
    let v = the_view c.self.inside in
    let is : IsFleet v = subst IsFleet (sym c.self.view_is) c.requires.fleet in
    let x = c.in-Some.sent.now in
    let number : sent_at v.messages c.args.number ≡ Some x = sym c.in-Some.ensures in
    let it : IsLetter v.chart (machine_at v) x = letter_at v is c.args.number x number in
    let update : Update = brought v.chart (machine_at v) (message_of x) in
    (update, it.whole, c.as_slice.ensures ∙ it.bytes)

pub index_mut-requires : goal.index_mut-requires
index_mut-requires c =
    let v = the_view c.self.inside in
    let is : IsFleet v = subst IsFleet (sym c.self.view_is) c.requires.fleet in
    let x = c.in-Some.sent.now in
    let number : sent_at v.messages c.args.number ≡ Some x = sym c.in-Some.ensures in
    let it : IsLetter v.chart (machine_at v) x = letter_at v is c.args.number x number in
    let update : Update = brought v.chart (machine_at v) (message_of x) in
    let units = units_long v in
    let count = is.count in
    let to = it.made.receiver in
    let lt : x.receiver.0 < length v.chart.units = omega (arith, units, count, to) in
    let within : x.receiver.0 < length v.slots = omega (arith, lt, count) in
    search (rules, within)

pub receive-requires : goal.receive-requires
receive-requires c =
    let v = the_view c.self.inside in
    let is : IsFleet v = subst IsFleet (sym c.self.view_is) c.requires.fleet in
    let x = c.in-Some.sent.now in
    let number : sent_at v.messages c.args.number ≡ Some x = sym c.in-Some.ensures in
    let it : IsLetter v.chart (machine_at v) x = letter_at v is c.args.number x number in
    let update : Update = brought v.chart (machine_at v) (message_of x) in
    let units = units_long v in
    let count = is.count in
    let to = it.made.receiver in
    let lt : x.receiver.0 < length v.chart.units = omega (arith, units, count, to) in
    let s = c.index_mut.result.now in
    let at : slice_get v.slots x.receiver.0 ≡ Some s = read_at v is x.receiver.0 s lt c.index_mut.ensures.value in
    let read : c.in_ok-update.update ≡ update = c.in_ok-update.ensures update it.whole (c.as_slice.ensures ∙ it.bytes) in
    λ up. subst (MayCome s) (sym read) (may_come v is x it s at)

pub returns-clause-led : goal.returns-clause-led
returns-clause-led c =
    let v = the_view c.self.inside in
    let is : IsFleet v = subst IsFleet (sym c.self.view_is) c.requires.fleet in
    let x = c.in-Some.sent.now in
    let number : sent_at v.messages c.args.number ≡ Some x = sym c.in-Some.ensures in
    let it : IsLetter v.chart (machine_at v) x = letter_at v is c.args.number x number in
    let update : Update = brought v.chart (machine_at v) (message_of x) in
    let units = units_long v in
    let count = is.count in
    let to = it.made.receiver in
    let lt : x.receiver.0 < length v.chart.units = omega (arith, units, count, to) in
    let s = c.index_mut.result.now in
    let at : slice_get v.slots x.receiver.0 ≡ Some s = read_at v is x.receiver.0 s lt c.index_mut.ensures.value in
    let read : c.in_ok-update.update ≡ update = c.in_ok-update.ensures update it.whole (c.as_slice.ensures ∙ it.bytes) in
    let t = c.receive.new.self in
    let answer : ReceiveAnswers s update c.receive.result t = subst (λ (y : Update). ReceiveAnswers s y c.receive.result t) read c.receive.ensures in
    subst (λ (y : FleetState). Leads y (line.Deliver c.args.number) c.receive.result (record v { slots = slice_set v.slots x.receiver.0 t })) c.self.view_is
    (delivered v is x it s at c.args.number number t c.receive.result answer)

pub returns-clause-wear : goal.returns-clause-wear
returns-clause-wear c =
    let v = the_view c.self.inside in
    let is : IsFleet v = subst IsFleet (sym c.self.view_is) c.requires.fleet in
    let x = c.in-Some.sent.now in
    let number : sent_at v.messages c.args.number ≡ Some x = sym c.in-Some.ensures in
    let it : IsLetter v.chart (machine_at v) x = letter_at v is c.args.number x number in
    let update : Update = brought v.chart (machine_at v) (message_of x) in
    let units = units_long v in
    let count = is.count in
    let to = it.made.receiver in
    let lt : x.receiver.0 < length v.chart.units = omega (arith, units, count, to) in
    let s = c.index_mut.result.now in
    let at : slice_get v.slots x.receiver.0 ≡ Some s = read_at v is x.receiver.0 s lt c.index_mut.ensures.value in
    let read : c.in_ok-update.update ≡ update = c.in_ok-update.ensures update it.whole (c.as_slice.ensures ∙ it.bytes) in
    let t = c.receive.new.self in
    let answer : ReceiveAnswers s update c.receive.result t = subst (λ (y : Update). ReceiveAnswers s y c.receive.result t) read c.receive.ensures in
    subst (λ (y : FleetState). WearsNone y (record v { slots = slice_set v.slots x.receiver.0 t })) c.self.view_is
    (delivered_wears v is x it s at c.args.number number t c.receive.result answer)
