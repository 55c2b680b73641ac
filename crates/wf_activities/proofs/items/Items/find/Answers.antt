use Rattle.std.proofs.Common.{◌∙◌, ap, arith}
use Rattle.wf_semantics.specs.Items.{item_at}
use Rattle.wf_activities.specs.UnitItems.{UnitItems}
use Rattle.wf_activities.proofs.Joined.{seen, find_item, find_none}
use Rattle.wf_activities.proofs.items.Items.find.Goals as goal

pub returns-then-place-len : goal.returns-then-place-len
returns-then-place-len c =
    find_item c.self.inside.started.items c.self.inside.closed.items c.args.item c.index.result.now c.index-then-place-len.result.now c.self.invariant.bits (omega arith) (omega arith)
    c.index.ensures c.index-then-place-len.ensures
    ∙ ap (λ (k : UnitItems). seen (item_at k.items c.args.item)) c.self.view_is

pub returns-else-place-len : goal.returns-else-place-len
returns-else-place-len c =
    find_none c.self.inside.started.items c.self.inside.closed.items c.args.item c.self.invariant.bits (omega arith) (omega arith)
    ∙ ap (λ (k : UnitItems). seen (item_at k.items c.args.item)) c.self.view_is
