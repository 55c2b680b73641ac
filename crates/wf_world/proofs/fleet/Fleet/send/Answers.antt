use Rattle.std.proofs.Common.{◌≡◌, ◌≢◌, inl, inr, ◌<◌, ◌+◌, ℕ, true≢false, length, slice_get, Some, None, sym, ap, ◌∙◌, subst, arith, rules}
use Rattle.wf_machine.specs.declared.line.Line.TheVariants as line
use Rattle.wf_machine.specs.declared.reply.Reply.TheVariants as reply
use Rattle.wf_machine.specs.Server.{IsDown}
use Rattle.wf_histories.specs.Histories.{taken}
use Rattle.wf_slot.specs.Slots.{SlotState}
use Rattle.wf_world.specs.declared.fault.ActFault.TheVariants as faults
use Rattle.wf_world.specs.Fleets.{FleetState, slot_at, IsFleet, Leads}
use Rattle.wf_world.specs.contracts.fleet.Fleet.{the_view}
use Rattle.wf_world.proofs.Results.{read_at, slot_is, handed_on}
use Rattle.wf_world.proofs.Room.{have_steps}
use Rattle.wf_world.proofs.Mailing.{posts_fleet, posts_worn, posts_slot, sends_down, one_leads, two_leads, one_past, first_past, second_past}
use Rattle.wf_world.proofs.fleet.Fleet.send.Goals as goal

pub returns-then-is_down-clause-led : goal.returns-then-is_down-clause-led
returns-then-is_down-clause-led c =
    let v = the_view c.self.inside in
    let is : IsFleet v = subst IsFleet (sym c.self.view_is) c.requires.fleet in
    let s = c.index-slot.result.now in
    let at_v : slice_get v.slots c.args.from.0 ≡ Some s = read_at v is c.args.from.0 s (subst (λ (y : FleetState). c.args.from.0 < length y.chart.units) (sym c.self.view_is) c.requires.from) c.index-slot.ensures in
    let f = c.args.self.now in
    let at : slice_get f.slots c.args.from.0 ≡ Some s = subst (λ (y : FleetState). slice_get y.slots c.args.from.0 ≡ Some s) c.self.view_is at_v in
    let here : slot_at f c.args.from.0 ≡ s = slot_is f c.args.from.0 s at in
    sends_down f c.requires.fleet c.args.from c.args.to s at (c.is_down.ensures.0 c.if-is_down.true)

pub post-requires-clause-up : goal.post-requires-clause-up
post-requires-clause-up c =
    let v = the_view c.self.inside in
    let is : IsFleet v = subst IsFleet (sym c.self.view_is) c.requires.fleet in
    let s = c.index-slot.result.now in
    let at_v : slice_get v.slots c.args.from.0 ≡ Some s = read_at v is c.args.from.0 s (subst (λ (y : FleetState). c.args.from.0 < length y.chart.units) (sym c.self.view_is) c.requires.from) c.index-slot.ensures in
    let f = c.args.self.now in
    let at : slice_get f.slots c.args.from.0 ≡ Some s = subst (λ (y : FleetState). slice_get y.slots c.args.from.0 ≡ Some s) c.self.view_is at_v in
    let here : slot_at f c.args.from.0 ≡ s = slot_is f c.args.from.0 s at in
    let up : s.health ≢ IsDown = λ down. true≢false (sym (c.is_down.ensures.1 down) ∙ c.if-is_down.false) in
    subst (λ (x : SlotState). x.health ≢ IsDown) (sym here) up

pub post-requires-clause-kept : goal.post-requires-clause-kept
post-requires-clause-kept c =
    let v = the_view c.self.inside in
    let is : IsFleet v = subst IsFleet (sym c.self.view_is) c.requires.fleet in
    let s = c.index-slot.result.now in
    let at_v : slice_get v.slots c.args.from.0 ≡ Some s = read_at v is c.args.from.0 s (subst (λ (y : FleetState). c.args.from.0 < length y.chart.units) (sym c.self.view_is) c.requires.from) c.index-slot.ensures in
    let f = c.args.self.now in
    let at : slice_get f.slots c.args.from.0 ≡ Some s = subst (λ (y : FleetState). slice_get y.slots c.args.from.0 ≡ Some s) c.self.view_is at_v in
    let here : slot_at f c.args.from.0 ≡ s = slot_is f c.args.from.0 s at in
    let none : taken s.past ≡ 0 = sym c.taken-taken.ensures ∙ c.if-taken-eq0.true in
    let zero : taken (slot_at f c.args.from.0).past ≡ 0 = ap (λ (x : SlotState). taken x.past) here ∙ none in
    inr (omega (arith, zero))

pub returns-in_err-post-clause-over : goal.returns-in_err-post-clause-over
returns-in_err-post-clause-over c =
    λ e.
    let v = the_view c.self.inside in
    let is : IsFleet v = subst IsFleet (sym c.self.view_is) c.requires.fleet in
    let s = c.index-slot.result.now in
    let at_v : slice_get v.slots c.args.from.0 ≡ Some s = read_at v is c.args.from.0 s (subst (λ (y : FleetState). c.args.from.0 < length y.chart.units) (sym c.self.view_is) c.requires.from) c.index-slot.ensures in
    let f = c.args.self.now in
    let at : slice_get f.slots c.args.from.0 ≡ Some s = subst (λ (y : FleetState). slice_get y.slots c.args.from.0 ≡ Some s) c.self.view_is at_v in
    let here : slot_at f c.args.from.0 ≡ s = slot_is f c.args.from.0 s at in
    let up : s.health ≢ IsDown = λ down. true≢false (sym (c.is_down.ensures.1 down) ∙ c.if-is_down.false) in
    let none : taken s.past ≡ 0 = sym c.taken-taken.ensures ∙ c.if-taken-eq0.true in
    one_past f c.requires.fleet c.args.from c.args.to s at (c.post.ensures.over (handed_on c.from_residual.result c.post.result c.in_err-post.field-0.0 faults.SentLimit c.in_err-post.was c.from_residual.ensures.1 e)) none up

pub returns-then-taken-eq0-clause-led : goal.returns-then-taken-eq0-clause-led
returns-then-taken-eq0-clause-led c =
    let v = the_view c.self.inside in
    let is : IsFleet v = subst IsFleet (sym c.self.view_is) c.requires.fleet in
    let s = c.index-slot.result.now in
    let at_v : slice_get v.slots c.args.from.0 ≡ Some s = read_at v is c.args.from.0 s (subst (λ (y : FleetState). c.args.from.0 < length y.chart.units) (sym c.self.view_is) c.requires.from) c.index-slot.ensures in
    let f = c.args.self.now in
    let at : slice_get f.slots c.args.from.0 ≡ Some s = subst (λ (y : FleetState). slice_get y.slots c.args.from.0 ≡ Some s) c.self.view_is at_v in
    let here : slot_at f c.args.from.0 ≡ s = slot_is f c.args.from.0 s at in
    let up : s.health ≢ IsDown = λ down. true≢false (sym (c.is_down.ensures.1 down) ∙ c.if-is_down.false) in
    let none : taken s.past ≡ 0 = sym c.taken-taken.ensures ∙ c.if-taken-eq0.true in
    let count : length f.messages ≡ c.count-first.result = sym (ap (λ (y : FleetState). length y.messages) c.self.view_is) ∙ sym c.count-first.ensures.count in
    subst (λ (n : ℕ). Leads f (line.Send c.args.from c.args.to) (reply.Sent (n + 1) None) c.post.new.self) count (one_leads f c.requires.fleet c.args.from c.args.to s at c.post.new.self c.in_ok-post.ensures.posted none up)

pub returns-then-taken-eq0-clause-wear : goal.returns-then-taken-eq0-clause-wear
returns-then-taken-eq0-clause-wear c = posts_worn c.args.self.now c.args.from c.args.to 1 c.post.new.self c.in_ok-post.ensures.posted

pub post-requires-2-clause-up : goal.post-requires-2-clause-up
post-requires-2-clause-up c =
    let v = the_view c.self.inside in
    let is : IsFleet v = subst IsFleet (sym c.self.view_is) c.requires.fleet in
    let s = c.index-slot.result.now in
    let at_v : slice_get v.slots c.args.from.0 ≡ Some s = read_at v is c.args.from.0 s (subst (λ (y : FleetState). c.args.from.0 < length y.chart.units) (sym c.self.view_is) c.requires.from) c.index-slot.ensures in
    let f = c.args.self.now in
    let at : slice_get f.slots c.args.from.0 ≡ Some s = subst (λ (y : FleetState). slice_get y.slots c.args.from.0 ≡ Some s) c.self.view_is at_v in
    let here : slot_at f c.args.from.0 ≡ s = slot_is f c.args.from.0 s at in
    let up : s.health ≢ IsDown = λ down. true≢false (sym (c.is_down.ensures.1 down) ∙ c.if-is_down.false) in
    subst (λ (x : SlotState). x.health ≢ IsDown) (sym here) up

pub post-requires-2-clause-kept : goal.post-requires-2-clause-kept
post-requires-2-clause-kept c =
    let v = the_view c.self.inside in
    let is : IsFleet v = subst IsFleet (sym c.self.view_is) c.requires.fleet in
    let s = c.index-slot.result.now in
    let at_v : slice_get v.slots c.args.from.0 ≡ Some s = read_at v is c.args.from.0 s (subst (λ (y : FleetState). c.args.from.0 < length y.chart.units) (sym c.self.view_is) c.requires.from) c.index-slot.ensures in
    let f = c.args.self.now in
    let at : slice_get f.slots c.args.from.0 ≡ Some s = subst (λ (y : FleetState). slice_get y.slots c.args.from.0 ≡ Some s) c.self.view_is at_v in
    let here : slot_at f c.args.from.0 ≡ s = slot_is f c.args.from.0 s at in
    inl (c.taken-taken.ensures ∙ sym (ap (λ (x : SlotState). taken x.past) here))

pub returns-in_err-post-2-clause-over : goal.returns-in_err-post-2-clause-over
returns-in_err-post-2-clause-over c =
    λ e.
    let v = the_view c.self.inside in
    let is : IsFleet v = subst IsFleet (sym c.self.view_is) c.requires.fleet in
    let s = c.index-slot.result.now in
    let at_v : slice_get v.slots c.args.from.0 ≡ Some s = read_at v is c.args.from.0 s (subst (λ (y : FleetState). c.args.from.0 < length y.chart.units) (sym c.self.view_is) c.requires.from) c.index-slot.ensures in
    let f = c.args.self.now in
    let at : slice_get f.slots c.args.from.0 ≡ Some s = subst (λ (y : FleetState). slice_get y.slots c.args.from.0 ≡ Some s) c.self.view_is at_v in
    let here : slot_at f c.args.from.0 ≡ s = slot_is f c.args.from.0 s at in
    let up : s.health ≢ IsDown = λ down. true≢false (sym (c.is_down.ensures.1 down) ∙ c.if-is_down.false) in
    let k = c.taken-taken.result in
    let some : taken s.past ≡ k = sym c.taken-taken.ensures in
    first_past f c.requires.fleet c.args.from c.args.to s at k (c.post-2.ensures.over (handed_on c.from_residual-in_err-post-2.result c.post-2.result c.in_err-post-2.field-0.0 faults.SentLimit c.in_err-post-2.was c.from_residual-in_err-post-2.ensures.1 e)) some c.if-taken-eq0.false up

pub overflow_add-taken : goal.overflow_add-taken
overflow_add-taken c =
    let v = the_view c.self.inside in
    let is : IsFleet v = subst IsFleet (sym c.self.view_is) c.requires.fleet in
    let s = c.index-slot.result.now in
    let at_v : slice_get v.slots c.args.from.0 ≡ Some s = read_at v is c.args.from.0 s (subst (λ (y : FleetState). c.args.from.0 < length y.chart.units) (sym c.self.view_is) c.requires.from) c.index-slot.ensures in
    let f = c.args.self.now in
    let at : slice_get f.slots c.args.from.0 ≡ Some s = subst (λ (y : FleetState). slice_get y.slots c.args.from.0 ≡ Some s) c.self.view_is at_v in
    let here : slot_at f c.args.from.0 ≡ s = slot_is f c.args.from.0 s at in
    let few = have_steps f c.requires.fleet c.args.from.0 s at c.requires.room in
    let taken_is = c.taken-taken.ensures in
    let small : c.taken-taken.result + 1 < 4294967296 = omega (arith, few, taken_is) in
    search (rules, small)

pub post-requires-3-clause-fleet : goal.post-requires-3-clause-fleet
post-requires-3-clause-fleet c = posts_fleet c.args.self.now c.requires.fleet c.args.from c.args.to c.taken-taken.result c.post-2.new.self c.in_ok-post-2.ensures.posted

pub post-requires-3-clause-up : goal.post-requires-3-clause-up
post-requires-3-clause-up c =
    let v = the_view c.self.inside in
    let is : IsFleet v = subst IsFleet (sym c.self.view_is) c.requires.fleet in
    let s = c.index-slot.result.now in
    let at_v : slice_get v.slots c.args.from.0 ≡ Some s = read_at v is c.args.from.0 s (subst (λ (y : FleetState). c.args.from.0 < length y.chart.units) (sym c.self.view_is) c.requires.from) c.index-slot.ensures in
    let f = c.args.self.now in
    let at : slice_get f.slots c.args.from.0 ≡ Some s = subst (λ (y : FleetState). slice_get y.slots c.args.from.0 ≡ Some s) c.self.view_is at_v in
    let here : slot_at f c.args.from.0 ≡ s = slot_is f c.args.from.0 s at in
    let up : s.health ≢ IsDown = λ down. true≢false (sym (c.is_down.ensures.1 down) ∙ c.if-is_down.false) in
    let now : slot_at c.post-2.new.self c.args.from.0 ≡ s = posts_slot f c.args.from c.args.to c.taken-taken.result c.post-2.new.self c.args.from.0 c.in_ok-post-2.ensures.posted ∙ here in
    subst (λ (x : SlotState). x.health ≢ IsDown) (sym now) up

pub post-requires-3-clause-kept : goal.post-requires-3-clause-kept
post-requires-3-clause-kept c =
    let v = the_view c.self.inside in
    let is : IsFleet v = subst IsFleet (sym c.self.view_is) c.requires.fleet in
    let s = c.index-slot.result.now in
    let at_v : slice_get v.slots c.args.from.0 ≡ Some s = read_at v is c.args.from.0 s (subst (λ (y : FleetState). c.args.from.0 < length y.chart.units) (sym c.self.view_is) c.requires.from) c.index-slot.ensures in
    let f = c.args.self.now in
    let at : slice_get f.slots c.args.from.0 ≡ Some s = subst (λ (y : FleetState). slice_get y.slots c.args.from.0 ≡ Some s) c.self.view_is at_v in
    let here : slot_at f c.args.from.0 ≡ s = slot_is f c.args.from.0 s at in
    let now : slot_at c.post-2.new.self c.args.from.0 ≡ s = posts_slot f c.args.from c.args.to c.taken-taken.result c.post-2.new.self c.args.from.0 c.in_ok-post-2.ensures.posted ∙ here in
    inr (ap (λ (n : ℕ). n + 1) (c.taken-taken.ensures ∙ sym (ap (λ (x : SlotState). taken x.past) now)))

pub returns-in_err-post-3-clause-over : goal.returns-in_err-post-3-clause-over
returns-in_err-post-3-clause-over c =
    λ e.
    let v = the_view c.self.inside in
    let is : IsFleet v = subst IsFleet (sym c.self.view_is) c.requires.fleet in
    let s = c.index-slot.result.now in
    let at_v : slice_get v.slots c.args.from.0 ≡ Some s = read_at v is c.args.from.0 s (subst (λ (y : FleetState). c.args.from.0 < length y.chart.units) (sym c.self.view_is) c.requires.from) c.index-slot.ensures in
    let f = c.args.self.now in
    let at : slice_get f.slots c.args.from.0 ≡ Some s = subst (λ (y : FleetState). slice_get y.slots c.args.from.0 ≡ Some s) c.self.view_is at_v in
    let here : slot_at f c.args.from.0 ≡ s = slot_is f c.args.from.0 s at in
    let up : s.health ≢ IsDown = λ down. true≢false (sym (c.is_down.ensures.1 down) ∙ c.if-is_down.false) in
    let k = c.taken-taken.result in
    let some : taken s.past ≡ k = sym c.taken-taken.ensures in
    second_past f c.requires.fleet c.args.from c.args.to s at k c.post-2.new.self c.in_ok-post-2.ensures.posted (c.post-3.ensures.over (handed_on c.from_residual-in_err-post-3.result c.post-3.result c.in_err-post-3.field-0.0 faults.SentLimit c.in_err-post-3.was c.from_residual-in_err-post-3.ensures.1 e)) some c.if-taken-eq0.false up

pub returns-clause-led : goal.returns-clause-led
returns-clause-led c =
    let v = the_view c.self.inside in
    let is : IsFleet v = subst IsFleet (sym c.self.view_is) c.requires.fleet in
    let s = c.index-slot.result.now in
    let at_v : slice_get v.slots c.args.from.0 ≡ Some s = read_at v is c.args.from.0 s (subst (λ (y : FleetState). c.args.from.0 < length y.chart.units) (sym c.self.view_is) c.requires.from) c.index-slot.ensures in
    let f = c.args.self.now in
    let at : slice_get f.slots c.args.from.0 ≡ Some s = subst (λ (y : FleetState). slice_get y.slots c.args.from.0 ≡ Some s) c.self.view_is at_v in
    let here : slot_at f c.args.from.0 ≡ s = slot_is f c.args.from.0 s at in
    let up : s.health ≢ IsDown = λ down. true≢false (sym (c.is_down.ensures.1 down) ∙ c.if-is_down.false) in
    let k = c.taken-taken.result in
    let some : taken s.past ≡ k = sym c.taken-taken.ensures in
    let count : length f.messages ≡ c.count-first.result = sym (ap (λ (y : FleetState). length y.messages) c.self.view_is) ∙ sym c.count-first.ensures.count in
    subst (λ (n : ℕ). Leads f (line.Send c.args.from c.args.to) (reply.Sent (n + 1) (Some ((n + 1) + 1))) c.post-3.new.self) count
    (two_leads f c.requires.fleet c.args.from c.args.to s at k c.post-2.new.self c.post-3.new.self c.in_ok-post-2.ensures.posted c.in_ok-post-3.ensures.posted some c.if-taken-eq0.false up)

pub returns-clause-wear : goal.returns-clause-wear
returns-clause-wear c =
    λ n are. posts_worn c.post-2.new.self c.args.from c.args.to (c.taken-taken.result + 1) c.post-3.new.self c.in_ok-post-3.ensures.posted n
    (posts_worn c.args.self.now c.args.from c.args.to c.taken-taken.result c.post-2.new.self c.in_ok-post-2.ensures.posted n are)
