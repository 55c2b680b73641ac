-- Updates: what is read is spelled so and in its ranges, and what is spelled is read again, whatever follows.
use Rattle.std.proofs.Common.{◌≡◌, ℕ, ◌+◌, ◌^◌, ◌<◌, List, ◌++◌, length, Option, None, Ok, refl, ap, arith}
use Rattle.std.specs.Int.{w32}
use Rattle.wf_model.specs.Limits.{max_units, max_events, max_vars, max_states, max_steps, max_fired, max_starts, max_sealed}
use Rattle.wf_model.specs.declared.ids.StateId.{StateId}
use Rattle.wf_model.specs.declared.ids.EventId.{EventId}
use Rattle.wf_model.specs.declared.update.Write.{Write}
use Rattle.wf_model.specs.declared.update.Update.{Update}
use Rattle.wf_codec.specs.Tags.{update_tag}
use Rattle.wf_codec.specs.Spelling.{spelling_of}
use Rattle.wf_codec.specs.Ranges.{chart_numbers, IsWrite, IsOuter, IsInRange, IsHeldValue, IsHeldOuter, IsHeld, IsUpdate}
use Rattle.wf_codec.specs.Reading.{least_after}
use Rattle.wf_codec.specs.Fields.{update_at}
use Rattle.wf_codec.proofs.Fits.{ascending_few}
use Rattle.wf_codec.proofs.Readers.{IsBytes, Takes, Reads, Reads-then, Reads-as, Reads-of}
use Rattle.wf_codec.proofs.Numbers.{IsWithin, Reads-byte, Reads-number, wide32}
use Rattle.wf_codec.proofs.Lists.{EachFits, Reads-list, in_order, each_fits, each_alone, all_fit, all_both, all_as}
use Rattle.wf_codec.proofs.Items.{IsNextState, IsNextEvent, IsNextTrans, IsHeldWrite, IsNextWrite, IsNextStart, states_split, events_split, transitions_split, writes_split, starts_split, Reads-state, Reads-write, Reads-event, Reads-start, Reads-trans}
use Rattle.wf_codec.proofs.Outers.{IsWhole, Reads-outer}

-- ---- the fields of an update

-- a list of fewer than so many, each of which fits behind the one before it
abbrev IsList : {A : Type 0} → (Option A → A → Type 0) → ℕ → List A → Type 0
IsList Fit bound xs = (length xs < bound) × EachFits Fit None xs

-- the unit is over that of the update before
abbrev IsOver : Option Update → Update → Type 0
IsOver before u = IsWithin (least_after (λ u. u.from.0) before) max_units u.from.0

abbrev pub IsNextUpdate : Option Update → Update → Type 0
IsNextUpdate before u = IsOver before u × IsUpdate u

-- the parts as they are read
abbrev AreRead : Option Update → Update → Type 0
AreRead before u =
    IsWithin update_tag (update_tag + 1) update_tag × (IsOver before u × (IsWithin 1 (max_steps + 2) u.step
    × (IsList IsNextState (max_states + 1) u.flips × (IsList IsNextWrite (2 ^ 16) u.writes × (IsList IsNextEvent (2 ^ 16) u.raised
    × (IsList IsNextStart (max_starts + 1) u.starts × (IsList IsNextTrans (max_fired + 1) u.fired × (IsList (λ b. IsWhole chart_numbers) (max_sealed + 1) u.outer × (u ≡ u)))))))))

read_is_next : (before : Option Update) (u : Update) → AreRead before u → IsNextUpdate before u
read_is_next before u (tag, (from, (step, (flips, (writes, (raised, (starts, (fired, (outer, same))))))))) =
    let flip = in_order states_split u.flips flips.1 in
    let write = in_order writes_split u.writes writes.1 in
    let event = in_order events_split u.raised raised.1 in
    let start = in_order starts_split u.starts starts.1 in
    let transition = in_order transitions_split u.fired fired.1 in
    let each = each_alone (IsWhole chart_numbers) None u.outer outer.1 in
    let ranges : IsInRange u = record {
      from = from.1;
      step = (step.0, omega (arith, step.1));
      flips = flip.0;
      flips_ascend = flip.1;
      writes = all_as (λ w. (w.var.0 < max_vars) × IsHeldWrite w) IsWrite (λ w p. (p.0, p.1.0)) u.writes write.0;
      writes_ascend = write.1;
      raised = event.0;
      raised_ascend = event.1;
      starts = start.0;
      starts_ascend = start.1;
      starts_few = omega (arith, starts.0);
      fired = transition.0;
      fired_ascend = transition.1;
      fired_few = omega (arith, fired.0);
      outer = all_as (IsWhole chart_numbers) (IsOuter chart_numbers) (λ o p. p.0) u.outer each;
      outer_few = omega (arith, outer.0);
    } in
    let held : IsHeld u =
    (all_as (λ w. (w.var.0 < max_vars) × IsHeldWrite w) (λ w. IsHeldValue w.val) (λ w p. p.1.1) u.writes write.0, all_as (IsWhole chart_numbers) IsHeldOuter (λ o p. p.1) u.outer each) in
    (from, (ranges, held))

next_is_read : (before : Option Update) (u : Update) → IsNextUpdate before u → AreRead before u
next_is_read before u (from, (ranges, held)) =
    let both = all_both IsWrite (λ w. IsHeldValue w.val) u.writes ranges.writes held.0 in
    let write = all_as (λ w. IsWrite w × IsHeldValue w.val) (λ w. (w.var.0 < max_vars) × IsHeldWrite w) (λ w p. (p.0.0, (p.0.1, p.1))) u.writes both in
    let few_flips = ascending_few (λ (s : StateId). s.0) max_states u.flips ranges.flips ranges.flips_ascend in
    let few_writes = ascending_few (λ (w : Write). w.var.0) max_vars u.writes (all_as IsWrite (λ w. w.var.0 < max_vars) (λ w p. p.0) u.writes ranges.writes) ranges.writes_ascend in
    let few_raised = ascending_few (λ (e : EventId). e.0) max_events u.raised ranges.raised ranges.raised_ascend in
    let step : IsWithin 1 (max_steps + 2) u.step = (ranges.step.0, omega (arith, ranges.step.1)) in
    let flips : IsList IsNextState (max_states + 1) u.flips = (omega (arith, few_flips), each_fits states_split u.flips ranges.flips ranges.flips_ascend) in
    let writes : IsList IsNextWrite (2 ^ 16) u.writes = (omega (arith, few_writes), each_fits writes_split u.writes write ranges.writes_ascend) in
    let raised : IsList IsNextEvent (2 ^ 16) u.raised = (omega (arith, few_raised), each_fits events_split u.raised ranges.raised ranges.raised_ascend) in
    let starts : IsList IsNextStart (max_starts + 1) u.starts = (omega (arith, ranges.starts_few), each_fits starts_split u.starts ranges.starts ranges.starts_ascend) in
    let fired : IsList IsNextTrans (max_fired + 1) u.fired = (omega (arith, ranges.fired_few), each_fits transitions_split u.fired ranges.fired ranges.fired_ascend) in
    let outer : IsList (λ b. IsWhole chart_numbers) (max_sealed + 1) u.outer =
    (omega (arith, ranges.outer_few), all_fit (IsWhole chart_numbers) None u.outer (all_both (IsOuter chart_numbers) IsHeldOuter u.outer ranges.outer held.1)) in
    ((omega arith, omega arith), (from, (step, (flips, (writes, (raised, (starts, (fired, (outer, refl)))))))))

pub Reads-update : (before : Option Update) → Reads (update_at chart_numbers before) spelling_of (IsNextUpdate before)
unfolding update_at spelling_of
Reads-update before =
    Reads-as spelling_of (IsNextUpdate before)
    (Reads-then (λ (u : Update). update_tag) (Reads-byte update_tag (update_tag + 1))
    (λ tag tag_fits. Reads-then (λ (u : Update). u.from.0) (Reads-byte (least_after (λ u. u.from.0) before) max_units)
    (λ from from_fits. Reads-then (λ (u : Update). u.step) (Reads-number w32 (2 ^ 32) wide32 1 (max_steps + 2) (omega arith))
    (λ step step_fits. Reads-then (λ (u : Update). u.flips) (Reads-list Reads-state (max_states + 1) (omega arith))
    (λ flips flips_fit. Reads-then (λ (u : Update). u.writes) (Reads-list Reads-write (2 ^ 16) (omega arith))
    (λ writes writes_fit. Reads-then (λ (u : Update). u.raised) (Reads-list Reads-event (2 ^ 16) (omega arith))
    (λ raised raised_fit. Reads-then (λ (u : Update). u.starts) (Reads-list Reads-start (max_starts + 1) (omega arith))
    (λ starts starts_fit. Reads-then (λ (u : Update). u.fired) (Reads-list Reads-trans (max_fired + 1) (omega arith))
    (λ fired fired_fit. Reads-of (λ (u : Update). u.outer)
    (λ outer. record { from = record { 0 = from }; step = step; flips = flips; writes = writes; raised = raised; starts = starts; fired = fired; outer = outer })
    (Reads-list (Reads-outer chart_numbers (omega arith, omega arith, omega arith)) (max_sealed + 1) (omega arith))
    (λ outer fit. refl))
    (λ fired u fit fits. ap (λ (w : Update). w.fired) fits.1))
    (λ starts u fit fits. ap (λ (w : Update). w.starts) fits.1.1))
    (λ raised u fit fits. ap (λ (w : Update). w.raised) fits.1.1.1))
    (λ writes u fit fits. ap (λ (w : Update). w.writes) fits.1.1.1.1))
    (λ flips u fit fits. ap (λ (w : Update). w.flips) fits.1.1.1.1.1))
    (λ step u fit fits. ap (λ (w : Update). w.step) fits.1.1.1.1.1.1))
    (λ from u fit fits. ap (λ (w : Update). w.from.0) fits.1.1.1.1.1.1.1))
    (λ tag u fit fits. omega (arith, fit.0, fit.1)))
    (λ u fit. refl) (read_is_next before) (next_is_read before)

pub update_takes : (bytes : List ℕ) (u : Update) (rest : List ℕ) → IsBytes bytes → update_at chart_numbers None bytes ≡ Ok (u, rest) → Takes bytes (spelling_of u) rest × IsUpdate u
update_takes bytes u rest fits e =
    let t = (Reads-update None).takes bytes u rest fits e in
    (t.0, t.1.1)

pub update_again : (u : Update) (rest : List ℕ) → IsUpdate u → update_at chart_numbers None (spelling_of u ++ rest) ≡ Ok (u, rest)
update_again u rest is = (Reads-update None).again u rest ((omega arith, is.0.from), is)
