use Rattle.std.proofs.Common.{length, ap, arith}
use Rattle.wf_activities.specs.UnitItems.{UnitItems}
use Rattle.wf_activities.proofs.Joined.{length_items}
use Rattle.wf_activities.proofs.items.Items.len.Goals as goal

pub returns : goal.returns
returns c =
    omega (arith, length_items c.self.inside.started.items c.self.inside.closed.items c.self.invariant.bits, ap (λ (k : UnitItems). length k.items) c.self.view_is)
