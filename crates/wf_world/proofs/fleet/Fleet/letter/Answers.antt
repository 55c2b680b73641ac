use Rattle.std.proofs.Common.{◌≡◌, ◌⊎◌, inl, inr, ◌<◌, ◌≤◌, ◌+◌, ℕ, length, slice_get, Some, sym, ap, ◌∙◌, subst, arith}
use Rattle.wf_histories.specs.Histories.{taken}
use Rattle.wf_slot.specs.Slots.{SlotState}
use Rattle.wf_world.specs.declared.mail.Sent.{Sent}
use Rattle.wf_world.specs.Fleets.{FleetState, slot_at, IsFleet, IsPost}
use Rattle.wf_world.specs.contracts.fleet.Fleet.{the_view}
use Rattle.wf_world.proofs.Results.{if_ok, if_ok2, read_at, slot_is}
use Rattle.wf_world.proofs.Mailing.{is_post, recent_again, some_in_post}
use Rattle.wf_world.proofs.fleet.Fleet.letter.Goals as goal

-- one that was sent
pub returns-in-Some-clause-post : goal.returns-in-Some-clause-post
returns-in-Some-clause-post c =
    let v = the_view c.self.inside in
    let is : IsFleet v = subst IsFleet (sym c.self.view_is) c.requires.fleet in
    let y : Sent = c.in-Some.sent.now in
    if_ok c.from_slice.result (λ bytes. bytes ≡ c.as_slice.result.now)
    (λ bytes. IsPost c.args.self.now c.args.from c.args.to c.args.step (record { sender = c.args.from; receiver = c.args.to; step = c.args.step; bytes = bytes })) c.from_slice.ensures
    (λ bytes same. subst (λ (f : FleetState). IsPost f c.args.from c.args.to c.args.step (record { sender = c.args.from; receiver = c.args.to; step = c.args.step; bytes = bytes })) c.self.view_is
    (recent_again v is c.args.from c.args.to c.args.step _ y bytes (sym c.in-Some.ensures) (same ∙ c.as_slice.ensures)))

pub returns-in-Some-clause-some : goal.returns-in-Some-clause-some
returns-in-Some-clause-some c =
    let v = the_view c.self.inside in
    let is : IsFleet v = subst IsFleet (sym c.self.view_is) c.requires.fleet in
    let y : Sent = c.in-Some.sent.now in
    if_ok c.from_slice.result (λ bytes. bytes ≡ c.as_slice.result.now) (λ bytes. 1 ≤ length bytes) c.from_slice.ensures
    (λ bytes same.
    some_in_post v c.args.from c.args.to c.args.step (record { sender = c.args.from; receiver = c.args.to; step = c.args.step; bytes = bytes })
    (recent_again v is c.args.from c.args.to c.args.step _ y bytes (sym c.in-Some.ensures) (same ∙ c.as_slice.ensures)))

-- one that is worked out
near : (f : FleetState) (u step : ℕ) (s : SlotState) → slot_at f u ≡ s → ((step ≡ taken (slot_at f u).past) ⊎ (step ≡ taken (slot_at f u).past + 1)) → step ≤ taken s.past + 1
near f u step s here (inl e) = let a : taken (slot_at f u).past ≡ taken s.past = ap (λ (x : SlotState). taken x.past) here in omega (arith, e, a)
near f u step s here (inr e) = let a : taken (slot_at f u).past ≡ taken s.past = ap (λ (x : SlotState). taken x.past) here in omega (arith, e, a)

pub returns-in-None-clause-post : goal.returns-in-None-clause-post
returns-in-None-clause-post c =
    let v = the_view c.self.inside in
    let is : IsFleet v = subst IsFleet (sym c.self.view_is) c.requires.fleet in
    let s = c.index.result.now in
    let at_v : slice_get v.slots c.args.from.0 ≡ Some s = read_at v is c.args.from.0 s (subst (λ (y : FleetState). c.args.from.0 < length y.chart.units) (sym c.self.view_is) c.requires.from) c.index.ensures in
    let at : slice_get c.args.self.now.slots c.args.from.0 ≡ Some s = subst (λ (y : FleetState). slice_get y.slots c.args.from.0 ≡ Some s) c.self.view_is at_v in
    let to : c.args.to.0 < length v.chart.units = subst (λ (y : FleetState). c.args.to.0 < length y.chart.units) (sym c.self.view_is) c.requires.to in
    if_ok2 c.letter.result _ _ (λ bytes. IsPost c.args.self.now c.args.from c.args.to c.args.step (record { sender = c.args.from; receiver = c.args.to; step = c.args.step; bytes = bytes })) c.letter.ensures.bytes c.letter.ensures.update
    (λ bytes spelled whole.
    subst (λ (f : FleetState). IsPost f c.args.from c.args.to c.args.step (record { sender = c.args.from; receiver = c.args.to; step = c.args.step; bytes = bytes })) c.self.view_is
    (is_post v is c.args.from c.args.to s at_v c.args.step bytes to c.requires.other c.requires.first (near c.args.self.now c.args.from.0 c.args.step s (slot_is c.args.self.now c.args.from.0 s at) c.requires.kept) spelled whole))
