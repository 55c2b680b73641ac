use Rattle.std.proofs.Common.{ℕ, ◌+◌, ◌-◌, ◌++◌, ◌<◌, List, length, map, get_or, ◌∙◌, ap, subst, refl, sym, arith, true≢false}
use Rattle.std.proofs.lemmas.List.{length-map}
use Rattle.std.specs.Vec.{vec_len, vec_capacity}
use Rattle.wf_model.specs.declared.ids.ActId.{ActId}
use Rattle.wf_model.specs.declared.update.StartAt.{StartAt}
use Rattle.wf_semantics.specs.Items.{new_item}
use Rattle.wf_activities.specs.UnitItems.{UnitItems, listed, at_step, items_from, starts_count}
use Rattle.wf_activities.proofs.Joined.{new_part, grown_items, grown_steps}
use Rattle.wf_activities.proofs.Counting.{count_few, started_below, all_below, kept_grown}
use Rattle.wf_activities.proofs.items.Items.grow.Goals as goal

pub count_all-requires-clause-wide : goal.count_all-requires-clause-wide
count_all-requires-clause-wide c = λ a h.
    let fresh = new_part c.self.inside.started.items (at_step c.args.step (listed c.args.chart_unit_acts.now c.args.starts.now)) c.as_slice.result.now c.len-before.result (omega arith)
    (c.as_slice.ensures.value ∙ c.in_ok-append.ensures.started) in
    started_below a c.args.step (length c.widen.new.counts.items) (listed c.args.chart_unit_acts.now c.args.starts.now) c.in_ok-widen.ensures.wide (subst (λ (l : List (ActId × ℕ)). 0 < starts_count a l) fresh h)

pub count_all-requires-clause-room : goal.count_all-requires-clause-room
count_all-requires-clause-room c = λ a.
    let fresh = new_part c.self.inside.started.items (at_step c.args.step (listed c.args.chart_unit_acts.now c.args.starts.now)) c.as_slice.result.now c.len-before.result (omega arith)
    (c.as_slice.ensures.value ∙ c.in_ok-append.ensures.started) in
    omega (
      arith,
      ap length fresh,
      length-map {B = ActId × ℕ} (listed c.args.chart_unit_acts.now c.args.starts.now) (λ (s : StartAt). (s.act, c.args.step)),
      c.widen.ensures.same a,
      c.self.invariant.counted a,
      count_few a (items_from c.self.inside.started.items c.self.inside.closed.items),
      ap (λ (k : UnitItems). length k.items) c.self.view_is,
      c.requires,
    )

pub invariant_of-self-2 : goal.invariant_of-self-2
invariant_of-self-2 c =
    let fresh = new_part c.self.inside.started.items (at_step c.args.step (listed c.args.chart_unit_acts.now c.args.starts.now)) c.as_slice.result.now c.len-before.result (omega arith)
    (c.as_slice.ensures.value ∙ c.in_ok-append.ensures.started) in
    kept_grown c.self.inside.started.items (at_step c.args.step (listed c.args.chart_unit_acts.now c.args.starts.now)) c.append.new.started.items c.self.inside.closed.items c.append.new.closed.items
    c.self.inside.counts.items c.count_all.new.counts.items c.in_ok-append.ensures.started c.in_ok-append.ensures.closed c.self.invariant
    (λ a. c.count_all.ensures.made a
    ∙ ap (λ (l : List (ActId × ℕ)). get_or c.widen.new.counts.items a 0 + starts_count a l) fresh
    ∙ ap (λ (n : ℕ). n + starts_count a (at_step c.args.step (listed c.args.chart_unit_acts.now c.args.starts.now))) (c.widen.ensures.same a))

pub returns-clause-items : goal.returns-clause-items
returns-clause-items c =
    grown_items c.self.inside.started.items (at_step c.args.step (listed c.args.chart_unit_acts.now c.args.starts.now)) c.append.new.started.items c.self.inside.closed.items c.append.new.closed.items
    c.args.step (listed c.args.chart_unit_acts.now c.args.starts.now) c.self.invariant.bits refl c.in_ok-append.ensures.started c.in_ok-append.ensures.closed
    ∙ ap (λ (k : UnitItems). k.items ++ map (λ (s : StartAt). new_item s.act) (listed c.args.chart_unit_acts.now c.args.starts.now)) c.self.view_is

pub returns-clause-steps : goal.returns-clause-steps
returns-clause-steps c =
    grown_steps c.self.inside.started.items (at_step c.args.step (listed c.args.chart_unit_acts.now c.args.starts.now)) c.append.new.started.items c.args.step
    (listed c.args.chart_unit_acts.now c.args.starts.now) refl c.in_ok-append.ensures.started
    ∙ ap (λ (k : UnitItems). k.steps ++ map (λ (s : StartAt). c.args.step) (listed c.args.chart_unit_acts.now c.args.starts.now)) c.self.view_is

pub returns-in_err-widen-clause-ready : goal.returns-in_err-widen-clause-ready
returns-in_err-widen-clause-ready c = λ small fits.
    absurd (true≢false (sym (c.in_err-widen.ensures.ready
    (all_below c.args.chart_unit_acts.now c.args.starts.now (length c.self.inside.counts.items) (vec_capacity c.self.inside.started - vec_len c.self.inside.started)
    (vec_capacity c.self.inside.closed - vec_len c.self.inside.closed) small (omega (arith, fits, ap (λ (k : UnitItems). k.room) c.self.view_is))))))
