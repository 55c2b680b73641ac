use Rattle.std.proofs.Common.{◌∙◌, ap}
use Rattle.wf_activities.specs.UnitItems.{UnitItems, started_of}
use Rattle.wf_activities.proofs.Joined.{zip_parts}
use Rattle.wf_activities.proofs.items.Items.started.Goals as goal

pub returns : goal.returns
returns c =
    c.as_slice.ensures.value
    ∙ zip_parts c.self.inside.started.items c.self.inside.closed.items c.self.invariant.bits
    ∙ ap (λ (k : UnitItems). started_of k) c.self.view_is
