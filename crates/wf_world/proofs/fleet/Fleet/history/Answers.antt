use Rattle.std.proofs.Common.{◌≡◌, ℕ, List, length, slice_get, unwrap_or, Option, Some, option_map, refl, sym, ap, ◌∙◌, rules}
use Rattle.std.proofs.lemmas.Option.{slice_get-map, slice_get_read}
use Rattle.wf_slot.specs.Units.{UnitState, new_unit}
use Rattle.wf_slot.specs.Slots.{SlotState, unit_of}
use Rattle.wf_world.specs.Sounds.{hist_of}
use Rattle.wf_world.specs.Fleets.{units_of}
use Rattle.wf_world.proofs.fleet.Fleet.history.Goals as goal

past_at : (slots : List SlotState) (u : ℕ) (s : SlotState) → slice_get slots u ≡ Some s → hist_of (units_of slots) u ≡ s.past
past_at slots u s at = ap (λ (o : Option UnitState). (unwrap_or o (new_unit u)).past) (slice_get-map unit_of slots u ∙ ap (option_map unit_of) at)

pub returns-in-Some-clause-past : goal.returns-in-Some-clause-past
returns-in-Some-clause-past c =
    let slots = c.args.self.now.slots in
    let here = c.deref.result.now in
    let u = c.args.unit.0 in
    let s = c.in-Some.slot.now in
    let there : slice_get here u ≡ Some s = slice_get_read here (length here) u s refl c.in-Some.ensures.lookup.3.0 c.in-Some.ensures.lookup.1 in
    let same : here ≡ slots = search (rules, c.deref.ensures.value, c.self.view_is) in
    c.history.ensures ∙ sym (past_at slots u s (sym (ap (λ (xs : List SlotState). slice_get xs u) same) ∙ there))
