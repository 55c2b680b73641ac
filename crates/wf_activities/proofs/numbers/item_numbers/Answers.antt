use Rattle.std.proofs.Common.{◌≡◌, ℕ, ◌+◌, List, ◌++◌, length, filter, drop, get_or, cond, ◌∙◌, ap, arith}
use Rattle.std.proofs.lemmas.List.{length-map, take_all}
use Rattle.wf_model.specs.declared.ids.ActId.{ActId}
use Rattle.wf_model.specs.declared.update.StartAt.{StartAt}
use Rattle.std.specs.Option.{option_map_or}
use Rattle.std.specs.Vec.{with_items}
use Rattle.wf_semantics.specs.Run.{act_unit, is_at, numbered}
use Rattle.wf_semantics.specs.Admission.{is_act_at}
use Rattle.wf_activities.specs.UnitItems.{UnitItems}
use Rattle.wf_activities.proofs.Numbering.{length_at, cond_few, counted_starts, numbered_step, numbered_all}
use Rattle.wf_activities.proofs.Stepping.{refilled}
use Rattle.wf_activities.proofs.numbers.item_numbers.Goals as goal

pub next_number-number-requires-clause-room : goal.next_number-number-requires-clause-room
next_number-number-requires-clause-room c = λ u.
    omega (
      arith,
      ap (λ (l : List ℕ). get_or l u 0) c.deref_mut.ensures.value,
      c.loop-start.invariant.few u,
      ap (λ (l : List ℕ). get_or l u 0) c.in_ok-counts.ensures,
      length_at c.args.units.now u,
      c.requires.room u,
    )

pub loop-start-preserved : goal.loop-start-preserved
loop-start-preserved c =
    let d : StartAt = record { act = record { 0 = 0 }; trans = record { 0 = 0 }; place = 0 } in
    let s : StartAt = get_or c.args.starts.now c.loop-start.start-index d in
    let long : length c.next_number-number.new.counts ≡ length c.loop-start.counts.items = c.next_number-number.auto.counts ∙ ap length c.deref_mut.ensures.value in
    let made : (with_items c.loop-start.counts c.next_number-number.new.counts).items ≡ c.next_number-number.new.counts = refilled c.loop-start.counts c.next_number-number.new.counts long in
    let counted = λ (u : ℕ).
    ap (λ (l : List ℕ). get_or l u 0) made ∙ c.next_number-number.ensures.counted u
    ∙ ap (λ (l : List ℕ). cond (is_act_at c.args.chart.now u s.act.0) (get_or l u 0 + 1) (get_or l u 0)) c.deref_mut.ensures.value in
    record {
      long = ap length made ∙ long ∙ c.loop-start.invariant.long;
      counted = λ u. counted_starts c.args.chart.now c.args.starts.now c.loop-start.start-index d u (get_or c.loop-start.counts.items u 0) (get_or (with_items c.loop-start.counts c.next_number-number.new.counts).items u 0) (get_or c.in_ok-counts.counts.items u 0) (omega arith) (counted u) (c.loop-start.invariant.counted u);
      few = λ u. omega (arith, counted u, cond_few (is_act_at c.args.chart.now u s.act.0) (get_or c.loop-start.counts.items u 0), c.loop-start.invariant.few u);
      rest =
          ap (λ (l : List (ActId × ℕ)). l ++ numbered c.args.chart.now (λ u. get_or (with_items c.loop-start.counts c.next_number-number.new.counts).items u 0) (drop (c.loop-start.start-index + 1) c.args.starts.now)) c.in_ok-push.ensures.ok
          ∙ numbered_step c.args.chart.now c.args.starts.now c.loop-start.start-index d c.loop-start.counts.items (with_items c.loop-start.counts c.next_number-number.new.counts).items c.loop-start.numbers
          (numbered c.args.chart.now (λ u. get_or c.in_ok-counts.counts.items u 0) c.args.starts.now) c.next_number-number.result (omega arith)
          (c.next_number-number.ensures.number ∙ ap (λ (l : List ℕ). option_map_or (λ u. get_or l u 0) (act_unit c.args.chart.now s.act.0) 0 + 1) c.deref_mut.ensures.value)
          counted c.loop-start.invariant.rest;
    }

pub returns-clause-starts : goal.returns-clause-starts
returns-clause-starts c =
    numbered_all c.args.chart.now c.args.units.now c.args.starts.now c.loop-start.start-index c.in_ok-counts.counts.items c.loop-start.counts.items c.loop-start.numbers (omega arith) c.in_ok-counts.ensures
    c.loop-start.invariant.rest

pub returns-clause-long : goal.returns-clause-long
returns-clause-long c = c.loop-start.invariant.long ∙ ap length c.in_ok-counts.ensures ∙ length-map c.args.units.now (λ (i : UnitItems). length i.items)

pub returns-clause-lengths : goal.returns-clause-lengths
returns-clause-lengths c = λ u.
    omega (
      arith,
      c.loop-start.invariant.counted u,
      ap (λ (l : List ℕ). get_or l u 0) c.in_ok-counts.ensures,
      length_at c.args.units.now u,
      ap (λ (l : List StartAt). length (filter (is_at c.args.chart.now u) l)) (take_all c.loop-start.start-index c.args.starts.now (omega arith)),
    )
