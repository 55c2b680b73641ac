use Rattle.std.proofs.Common.{◌≡◌, ℕ, ◌<◌, ◌++◌, List, [], length, map, filter, get_or, sym, ◌∙◌, ap, subst, arith}
use Rattle.std.specs.Vec.{with_items}
use Rattle.wf_semantics.specs.Items.{Item}
use Rattle.wf_semantics.specs.Run.{completions_at, is_at, new_items}
use Rattle.wf_activities.specs.UnitItems.{UnitItems}
use Rattle.wf_activities.specs.Stock.{Stock, items_at, items_in, steps_in}
use Rattle.wf_activities.specs.Completed.{CompleteInTurn}
use Rattle.wf_activities.proofs.Turns.{come_in_turn}
use Rattle.wf_activities.proofs.Stepping.{refilled, length_close_all, rooms_stay, reserved_is, reserved_items, closed_is, closed_items, closed_steps, closed_length}
use Rattle.wf_activities.proofs.all_items.AllItems.take_step.Goals as goal

pub close_completed-requires : goal.close_completed-requires
close_completed-requires c =
    subst (λ (items : ℕ → List Item). CompleteInTurn items c.args.entries.now)
    (sym (reserved_items c.self.inside.units c.args.self.now (ap (λ (s : Stock). s.items) c.self.view_is) c.deref_mut.result.now c.reserve.new.units c.deref_mut.ensures.value c.reserve.auto.units c.in_ok-reserve.ensures.items c.deref_mut-2.result.now c.deref_mut-2.ensures.value))
    (come_in_turn c.args.chart.now (items_at c.args.self.now) c.args.entries.now c.requires.come)

pub grow-requires-clause-units : goal.grow-requires-clause-units
grow-requires-clause-units c =
    let long = closed_length c.self.inside.units c.args.self.now (ap (λ (s : Stock). s.items) c.self.view_is) c.deref_mut.result.now c.reserve.new.units c.deref_mut.ensures.value c.reserve.auto.units c.in_ok-reserve.ensures.items c.deref_mut-2.result.now c.deref_mut-2.ensures.value
    c.args.entries.now c.close_completed.new.units c.close_completed.auto.units c.close_completed.ensures.items c.deref_mut-3.result.now c.deref_mut-3.ensures.value in
    long ∙ c.requires.of.units

pub grow-requires-clause-room : goal.grow-requires-clause-room
grow-requires-clause-room c = λ u lt.
    let before = reserved_is c.self.inside.units c.args.self.now (ap (λ (s : Stock). s.items) c.self.view_is) c.deref_mut.result.now c.reserve.new.units c.deref_mut.ensures.value c.reserve.auto.units c.in_ok-reserve.ensures.items c.deref_mut-2.result.now c.deref_mut-2.ensures.value in
    let after = closed_is c.self.inside.units c.args.self.now (ap (λ (s : Stock). s.items) c.self.view_is) c.deref_mut.result.now c.reserve.new.units c.deref_mut.ensures.value c.reserve.auto.units c.in_ok-reserve.ensures.items c.deref_mut-2.result.now c.deref_mut-2.ensures.value
    c.args.entries.now c.close_completed.new.units c.close_completed.auto.units c.close_completed.ensures.items c.deref_mut-3.result.now c.deref_mut-3.ensures.value in
    let within : u < length c.reserve.new.units = omega (arith, ap length after, c.close_completed.auto.units, ap length before) in
    let items = c.in_ok-reserve.ensures.items ∙ ap (map (λ (i : UnitItems). i.items)) (c.deref_mut.ensures.value ∙ sym c.as_slice.ensures.value) in
    let rooms = rooms_stay c.deref_mut-3.result.now c.reserve.new.units u (ap (map (λ (i : UnitItems). i.room)) after ∙ c.close_completed.ensures.rooms ∙ ap (map (λ (i : UnitItems). i.room)) before) in
    omega (
      arith,
      rooms,
      c.in_ok-reserve.ensures.room u within,
      ap (λ (l : List ℕ). get_or l u 0) c.as_slice-2.ensures.value,
      c.in_ok-numbers.ensures.lengths u,
      ap (λ (l : List (List Item)). length (get_or l u [])) items,
    )

pub grow-requires-clause-few : goal.grow-requires-clause-few
grow-requires-clause-few c = λ u.
    let made = closed_items c.self.inside.units c.args.self.now (ap (λ (s : Stock). s.items) c.self.view_is) c.deref_mut.result.now c.reserve.new.units c.deref_mut.ensures.value c.reserve.auto.units c.in_ok-reserve.ensures.items c.deref_mut-2.result.now c.deref_mut-2.ensures.value
    c.args.entries.now c.close_completed.new.units c.close_completed.auto.units c.close_completed.ensures.items c.deref_mut-3.result.now c.deref_mut-3.ensures.value u in
    omega (arith, ap length made, length_close_all (completions_at u c.args.entries.now) (items_at c.args.self.now u), c.requires.room u)

pub returns-clause-items : goal.returns-clause-items
returns-clause-items c =
    let made = closed_items c.self.inside.units c.args.self.now (ap (λ (s : Stock). s.items) c.self.view_is) c.deref_mut.result.now c.reserve.new.units c.deref_mut.ensures.value c.reserve.auto.units c.in_ok-reserve.ensures.items c.deref_mut-2.result.now c.deref_mut-2.ensures.value
    c.args.entries.now c.close_completed.new.units c.close_completed.auto.units c.close_completed.ensures.items c.deref_mut-3.result.now c.deref_mut-3.ensures.value in
    let last : (with_items (with_items (with_items c.self.inside.units c.reserve.new.units) c.close_completed.new.units) c.grow.new.units).items ≡ c.grow.new.units =
    refilled (with_items (with_items c.self.inside.units c.reserve.new.units) c.close_completed.new.units) c.grow.new.units (c.grow.auto.units ∙ ap length c.deref_mut-3.ensures.value) in
    λ k u.
    (ap (λ (l : List UnitItems). items_in l u) last ∙ c.grow.ensures.items u ∙ ap (λ (l : List Item). l ++ new_items c.args.chart.now u c.args.starts.now) (made u)) k

pub returns-clause-steps : goal.returns-clause-steps
returns-clause-steps c =
    let kept = closed_steps c.self.inside.units c.args.self.now (ap (λ (s : Stock). s.items) c.self.view_is) c.deref_mut.result.now c.reserve.new.units c.deref_mut.ensures.value c.reserve.auto.units c.in_ok-reserve.ensures.items c.deref_mut-2.result.now c.deref_mut-2.ensures.value
    c.args.entries.now c.close_completed.new.units c.close_completed.auto.units c.close_completed.ensures.items c.deref_mut-3.result.now c.deref_mut-3.ensures.value
    (ap (λ (s : Stock). s.steps) c.self.view_is) c.in_ok-reserve.ensures.steps c.close_completed.ensures.steps in
    let last : (with_items (with_items (with_items c.self.inside.units c.reserve.new.units) c.close_completed.new.units) c.grow.new.units).items ≡ c.grow.new.units =
    refilled (with_items (with_items c.self.inside.units c.reserve.new.units) c.close_completed.new.units) c.grow.new.units (c.grow.auto.units ∙ ap length c.deref_mut-3.ensures.value) in
    λ u.
    ap (λ (l : List UnitItems). steps_in l u) last ∙ c.grow.ensures.steps u
    ∙ ap (λ (l : List (List ℕ)). get_or l u [] ++ map (λ s. c.args.step) (filter (is_at c.args.chart.now u) c.args.starts.now)) kept
