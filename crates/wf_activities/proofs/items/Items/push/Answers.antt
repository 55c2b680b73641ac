use Rattle.std.proofs.Common.{◌≡◌, ◌+◌, ◌-◌, ◌<◌, ◌++◌, [], ◌∷◌, false, length, get_or, set, ap, ap₂, ◌∙◌, arith}
use Rattle.std.proofs.lemmas.Grind.{get_or_default_zero}
use Rattle.std.specs.Vec.{vec_len, vec_capacity}
use Rattle.wf_semantics.specs.Items.{new_item}
use Rattle.wf_activities.specs.UnitItems.{UnitItems, items_from}
use Rattle.wf_activities.proofs.Joined.{items_append, ok_pushed}
use Rattle.wf_activities.proofs.Counting.{count_few, room_parts, counted_one, kept_grown}
use Rattle.wf_activities.proofs.items.Items.push.Goals as goal

pub overflow_add-index_mut : goal.overflow_add-index_mut
overflow_add-index_mut c =
    let within = (room_parts (length c.self.inside.counts.items) (vec_capacity c.self.inside.started - vec_len c.self.inside.started)
    (vec_capacity c.self.inside.closed - vec_len c.self.inside.closed) (omega (arith, c.requires.room, ap (λ (k : UnitItems). k.room) c.self.view_is))).0 in
    let read : c.index_mut.result.now ≡ get_or c.self.inside.counts.items c.args.act.0 0 =
    c.index_mut.ensures.value ∙ get_or_default_zero c.self.inside.counts.items c.args.act.0 c.index_mut.result.now (omega (arith, within, c.requires.small)) in
    omega (
      arith,
      read,
      c.self.invariant.counted c.args.act.0,
      count_few c.args.act.0 (items_from c.self.inside.started.items c.self.inside.closed.items),
      ap (λ (k : UnitItems). length k.items) c.self.view_is,
      c.requires.few,
    )

pub invariant_of-self : goal.invariant_of-self
invariant_of-self c =
    let within = (room_parts (length c.self.inside.counts.items) (vec_capacity c.self.inside.started - vec_len c.self.inside.started)
    (vec_capacity c.self.inside.closed - vec_len c.self.inside.closed) (omega (arith, c.requires.room, ap (λ (k : UnitItems). k.room) c.self.view_is))).0 in
    let here : c.args.act.0 < length c.self.inside.counts.items = omega (arith, within, c.requires.small) in
    kept_grown c.self.inside.started.items ((c.args.act, c.args.step) ∷ []) c.push.new.self.items c.self.inside.closed.items c.push-2.new.self.items c.self.inside.counts.items
    (set c.self.inside.counts.items c.args.act.0 (c.index_mut.result.now + 1))
    (ok_pushed c.push.result c.unwrap.result c.push.new.self.items (c.self.inside.started.items ++ (c.args.act, c.args.step) ∷ []) c.self.inside.started.items c.unwrap.ensures c.push.ensures.items)
    (ok_pushed c.push-2.result c.unwrap-2.result c.push-2.new.self.items (c.self.inside.closed.items ++ false ∷ []) c.self.inside.closed.items c.unwrap-2.ensures c.push-2.ensures.items)
    c.self.invariant
    (counted_one c.self.inside.counts.items (c.args.act, c.args.step) c.index_mut.result.now here (c.index_mut.ensures.value ∙ get_or_default_zero c.self.inside.counts.items c.args.act.0 c.index_mut.result.now here))

pub returns-clause-items : goal.returns-clause-items
returns-clause-items c =
    ap₂ items_from
    (ok_pushed c.push.result c.unwrap.result c.push.new.self.items (c.self.inside.started.items ++ (c.args.act, c.args.step) ∷ []) c.self.inside.started.items c.unwrap.ensures c.push.ensures.items)
    (ok_pushed c.push-2.result c.unwrap-2.result c.push-2.new.self.items (c.self.inside.closed.items ++ false ∷ []) c.self.inside.closed.items c.unwrap-2.ensures c.push-2.ensures.items)
    ∙ items_append c.self.inside.started.items ((c.args.act, c.args.step) ∷ []) c.self.inside.closed.items (false ∷ []) c.self.invariant.bits
    ∙ ap (λ (k : UnitItems). k.items ++ new_item c.args.act ∷ []) c.self.view_is
