use Rattle.std.proofs.Common.{◌≡◌, ℕ, ◌-◌, get_or, sym, ◌∙◌, ap, arith}
use Rattle.std.proofs.lemmas.Grind.{get_or_default_zero}
use Rattle.wf_semantics.specs.Items.{item_at, close}
use Rattle.wf_activities.specs.UnitItems.{UnitItems, is_open, items_from}
use Rattle.wf_activities.proofs.Joined.{open_place, close_items}
use Rattle.wf_activities.proofs.Counting.{has_one, in_table, kept_close}
use Rattle.wf_activities.proofs.items.Items.close.Goals as goal

pub index-requires : goal.index-requires
index-requires c =
    let place = open_place c.self.inside.started.items c.self.inside.closed.items c.args.item c.self.invariant.bits
    (ap (λ (k : UnitItems). is_open (item_at k.items c.args.item)) c.self.view_is ∙ c.requires) in
    omega (arith, place.1)

pub index_mut-requires : goal.index_mut-requires
index_mut-requires c =
    let place = open_place c.self.inside.started.items c.self.inside.closed.items c.args.item c.self.invariant.bits
    (ap (λ (k : UnitItems). is_open (item_at k.items c.args.item)) c.self.view_is ∙ c.requires) in
    omega (arith, place.1, c.self.invariant.bits)

pub index_mut-requires-2 : goal.index_mut-requires-2
index_mut-requires-2 c =
    let place = open_place c.self.inside.started.items c.self.inside.closed.items c.args.item c.self.invariant.bits
    (ap (λ (k : UnitItems). is_open (item_at k.items c.args.item)) c.self.view_is ∙ c.requires) in
    let some = has_one c.self.inside.started.items c.self.inside.closed.items c.self.inside.counts.items c.self.invariant (c.args.item - 1) c.index.result.now c.index_mut.result.now
    place.1 c.index.ensures c.index_mut.ensures.value place.2 in
    omega (arith, in_table c.self.inside.counts.items c.index.result.now.0.0 some)

pub overflow_sub-index_mut : goal.overflow_sub-index_mut
overflow_sub-index_mut c =
    let place = open_place c.self.inside.started.items c.self.inside.closed.items c.args.item c.self.invariant.bits
    (ap (λ (k : UnitItems). is_open (item_at k.items c.args.item)) c.self.view_is ∙ c.requires) in
    let some = has_one c.self.inside.started.items c.self.inside.closed.items c.self.inside.counts.items c.self.invariant (c.args.item - 1) c.index.result.now c.index_mut.result.now
    place.1 c.index.ensures c.index_mut.ensures.value place.2 in
    let read : c.index_mut-2.result.now ≡ get_or c.self.inside.counts.items c.index.result.now.0.0 0 =
    c.index_mut-2.ensures.value ∙ get_or_default_zero c.self.inside.counts.items c.index.result.now.0.0 c.index_mut-2.result.now (in_table c.self.inside.counts.items c.index.result.now.0.0 some) in
    omega (arith, some, read)

pub invariant_of-self : goal.invariant_of-self
invariant_of-self c =
    let place = open_place c.self.inside.started.items c.self.inside.closed.items c.args.item c.self.invariant.bits
    (ap (λ (k : UnitItems). is_open (item_at k.items c.args.item)) c.self.view_is ∙ c.requires) in
    let some = has_one c.self.inside.started.items c.self.inside.closed.items c.self.inside.counts.items c.self.invariant (c.args.item - 1) c.index.result.now c.index_mut.result.now
    place.1 c.index.ensures c.index_mut.ensures.value place.2 in
    let read : c.index_mut-2.result.now ≡ get_or c.self.inside.counts.items c.index.result.now.0.0 0 =
    c.index_mut-2.ensures.value ∙ get_or_default_zero c.self.inside.counts.items c.index.result.now.0.0 c.index_mut-2.result.now (in_table c.self.inside.counts.items c.index.result.now.0.0 some) in
    kept_close c.self.inside.started.items c.self.inside.closed.items c.self.inside.counts.items c.self.invariant (c.args.item - 1) c.index.result.now c.index_mut.result.now
    place.1 c.index.ensures c.index_mut.ensures.value place.2 c.index_mut-2.result.now read

pub returns-clause-items : goal.returns-clause-items
returns-clause-items c =
    let place = open_place c.self.inside.started.items c.self.inside.closed.items c.args.item c.self.invariant.bits
    (ap (λ (k : UnitItems). is_open (item_at k.items c.args.item)) c.self.view_is ∙ c.requires) in
    close_items c.self.inside.started.items c.self.inside.closed.items (c.args.item - 1)
    ∙ ap (λ (n : ℕ). close n (items_from c.self.inside.started.items c.self.inside.closed.items)) (sym place.0)
    ∙ ap (λ (k : UnitItems). close c.args.item k.items) c.self.view_is
